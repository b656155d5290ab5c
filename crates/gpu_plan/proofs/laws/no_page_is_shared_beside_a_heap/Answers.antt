use Rattle.gpu_plan.proofs.Beside.{none_shared}
use Rattle.gpu_plan.proofs.laws.no_page_is_shared_beside_a_heap.Goals as goal

pub returns : goal.returns
returns c = λ resources offsets heap m place i kind p n valid heaped serves whole beside i_lt differ share.
    none_shared c.args.page resources offsets heap m place i kind p n c.requires valid heaped serves whole beside i_lt differ share
