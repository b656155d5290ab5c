use Rattle.std.proofs.Common.{arith, ◌<◌, ◌+◌, ◌*◌, ◌%◌, ◌^◌, ◌/◌, ap, sym, subst, ◌∙◌}
use Rattle.gpu_block_gaps.specs.Class.{untold, class_count}
use Rattle.gpu_block_gaps.proofs.Classes.{class_within, class_count_small, shift_whole}
use Rattle.gpu_block_gaps.proofs.class.class_of.Goals as goal

pub overflow_add-result : goal.overflow_add-result
overflow_add-result c =
    let within = class_within c.args.digits c.args.length c.requires (omega arith) in
    let few = class_count_small c.args.digits c.requires in
    let whole = shift_whole c.args.digits c.args.length c.requires (omega arith) in
    record { fits = subst (λ e. (e * 2 ^ c.args.digits) % 2 ^ 64 + c.args.length / 2 ^ e < 2 ^ 64) (sym c.saturating_sub-shift.ensures) (omega arith) }

pub returns-clause-class : goal.returns-clause-class
returns-clause-class c =
    let whole = shift_whole c.args.digits c.args.length c.requires (omega arith) in
    ap (λ e. (e * 2 ^ c.args.digits) % 2 ^ 64 + c.args.length / 2 ^ e) c.saturating_sub-shift.ensures ∙ ap (λ n. n + c.args.length / 2 ^ untold c.args.digits c.args.length) whole

pub returns-clause-within : goal.returns-clause-within
returns-clause-within c =
    let within = class_within c.args.digits c.args.length c.requires (omega arith) in
    let whole = shift_whole c.args.digits c.args.length c.requires (omega arith) in
    subst (λ e. (e * 2 ^ c.args.digits) % 2 ^ 64 + c.args.length / 2 ^ e < class_count c.args.digits) (sym c.saturating_sub-shift.ensures) (omega arith)
