use Rattle.std.proofs.Common.{subst, ap}
use Rattle.gpu_sim.specs.Scripted.{EndAsScripted, Journaled}
use Rattle.gpu_sim.proofs.scripted_journal.ScriptedJournal.ends_as_scripted.Goals as goal

pub returns : goal.returns
returns c = subst EndAsScripted (ap (λ (j : Journaled). j.history) c.self.view_is) c.self.invariant.ended
