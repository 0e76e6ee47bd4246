use Rattle.std.proofs.Common.{false, ap, ◌∙◌}
use Rattle.iol_back.specs.Disk.{Disk}
use Rattle.iol_serve.proofs.Steps.{appends_kept, serves_none, serves_came, serves_alone, serves_refused, serves_then}
use Rattle.iol_serve.proofs.serve.receive.Goals as goal

pub returns-then-is_err-clause-serves : goal.returns-then-is_err-clause-serves
returns-then-is_err-clause-serves g c =
    λ honest. serves_none g.P.Process.turns c.args.conn _ _ _ _ (appends_kept _ _ c.flush.ensures.bytes)

pub returns-then-arrived-clause-serves : goal.returns-then-arrived-clause-serves
returns-then-arrived-clause-serves g c =
    λ honest. serves_came g.P.Process.turns c.args.conn _ _ _ _ _ _ _ (appends_kept _ _ c.flush.ensures.bytes)
    (c.in-Ok.ensures.copied honest)

pub returns-then-arrived-2-clause-serves : goal.returns-then-arrived-2-clause-serves
returns-then-arrived-2-clause-serves g c = λ honest.
    let came = serves_came g.P.Process.turns c.args.conn _ _ _ _ _ _ _ (appends_kept _ _ c.flush.ensures.bytes)
    (c.in-Ok.ensures.copied honest) in
    let closed = c.close.ensures.proceeds (ap (λ (d : Disk). d.honest) c.arrive_from.ensures.system.disk ∙ honest) in
    serves_then g.P.Process.turns c.args.conn false false _ _ _ _ _ _ _ _ _ came
    (serves_alone g.P.Process.turns c.args.conn false _ _ _ _ closed)

pub returns-else-arrived-2-clause-serves : goal.returns-else-arrived-2-clause-serves
returns-else-arrived-2-clause-serves g c =
    λ honest. serves_came g.P.Process.turns c.args.conn _ _ _ _ _ _ _ (appends_kept _ _ c.flush.ensures.bytes)
    (c.in-Ok.ensures.copied honest)

pub returns-in-Err-BrokenPipe-clause-serves : goal.returns-in-Err-BrokenPipe-clause-serves
returns-in-Err-BrokenPipe-clause-serves g c =
    λ honest. serves_refused g.P.Process.turns c.args.conn _ _ _ _ _ _
    (ap g.R.Read.remaining c.in-Err-BrokenPipe.ensures.system.refuses.err_reader)
    (appends_kept _ _ c.flush.ensures.bytes) (c.in-Err-BrokenPipe.ensures.err_copied honest)

pub returns-in-Err-clause-honest : goal.returns-in-Err-clause-honest
returns-in-Err-clause-honest g c = record { same = ap (λ (d : Disk). d.honest) c.arrive_from.ensures.system.disk }

pub returns-in-Err-clause-serves : goal.returns-in-Err-clause-serves
returns-in-Err-clause-serves g c =
    λ honest. serves_refused g.P.Process.turns c.args.conn _ _ _ _ _ _
    (ap g.R.Read.remaining c.in-Err.ensures.system.refuses.err_reader) (appends_kept _ _ c.flush.ensures.bytes)
    (c.in-Err.ensures.err_copied honest)
