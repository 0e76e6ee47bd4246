use Rattle.std.proofs.Common.{◌<◌, ◌∙◌, ap, subst, length}
use Rattle.iol_core.specs.Text as text
use Rattle.iol_arena.specs.State.{pages_for}
use Rattle.iol_hold.specs.Room.{free_of}
use Rattle.iol_cache.proofs.RangeReads.PageSteps.{few_free}
use Rattle.iol_cache.proofs.RangeWrites.Composition.{composes_copied, length-bytes}
use Rattle.iol_cache.proofs.write.copies.copy_run.Goals as goal

pub returns-in-Err : goal.returns-in-Err
returns-in-Err c =
    let s = c.args.store.now in
    let bytes = ap length (c.deref.ensures.value ∙ c.in_ok-bytes.ensures) ∙ length-bytes s c.args.run.now in
    record {
      composes = tt;
      no_room =
          λ p e. subst (λ n. length (free_of s c.args.pool) < pages_for n) bytes
          (few_free s c.args.pool (length c.deref.result.now) (c.in-Err.ensures.no_room p e));
      late =
          c.in-Err.ensures.late;
      err = c.in-Err.ensures.err;
    }

pub returns : goal.returns
returns c =
    let s = c.args.store.now in
    let e = c.in-Ok.ensures in
    let bytes = c.deref.ensures.value ∙ c.in_ok-bytes.ensures in
    let all = composes_copied {s = s} {t = c.fill.new.store} {p = c.args.pool} {run = c.args.run.now}
    (length c.deref.result.now) (ap length bytes ∙ length-bytes s c.args.run.now) c.requires.others c.requires.tidy
    e.moves
    (e.text ∙ ap (text.labelled c.args.pool) bytes) e.readable e.made_on e.others e.grows e.pools e.lowest e.room
    e.reclaims in
    record { composes = all; no_room = λ p is. cc; late = tt; err = tt }
