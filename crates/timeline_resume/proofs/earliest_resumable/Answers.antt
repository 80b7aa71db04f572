-- `timeline_resume::earliest_resumable` meets its contract.
use Rattle.timeline.specs.Ask.{ended}
use Rattle.timeline_resume.proofs.Finding.{start-above, resumed-none}
use Rattle.timeline_resume.proofs.earliest_resumable.Goals as goal

pub returns-then-units-t : goal.returns-then-units-t
unfolding ended
returns-then-units-t c = let q = c.requires in resumed-none _ _ 0 _ (start-above _ q.0 _ _ _ q.1 c.if-units-t.true)

pub first_resumable-requires : goal.first_resumable-requires
first_resumable-requires c = let q = c.requires in (q.0, q.1, q.2, c.if-units-t.false)

pub returns : goal.returns
returns c = c.first_resumable.ensures
