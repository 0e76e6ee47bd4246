use Rattle.std.proofs.Common.{◌≡◌, ◌∙◌, ◌+◌, ◌≤◌, List, ℕ, Result, IfOk, length, take, drop, min, refl, sym, ap, arith}
use Rattle.std.proofs.Common.{rules}
use Rattle.iol_arena.specs.Buffers.{Grows}
use Rattle.iol_arena.specs.Parts.{part_bytes, part_room}
use Rattle.iol_arena.specs.State.{with_bytes}
use Rattle.iol_back.specs.Disk.{Disk, IfHonest, content}
use Rattle.iol_hold.specs.Fillings.{Fill, IsFilling, filling_part, filling_parts, filling_store, with_store}
use Rattle.iol_hold.specs.StoreState.{with_arena}
use Rattle.iol_hold.proofs.Reservations.{same_fills, same_held}
use Rattle.iol_cache.specs.Loads.{ReadsPart}
use Rattle.iol_cache.proofs.read.load.fill_part.Goals as goal

-- the memory of a part was written
wrote : {E : Type 0} {d : Disk} {left file at : ℕ} {r : Result ℕ E} (f : Fill) (i : ℕ) (w : List ℕ) → IsFilling f
    → length w ≡ part_room (filling_part f i) → length (part_bytes (filling_store f).arena (filling_part f i))
    ≡ part_room (filling_part f i)
    → Grows (filling_store f).arena (with_bytes (filling_store f).arena (filling_part f i).first w)
    → IfOk r (λ n. n ≡ min left (part_room (filling_part f i)))
    → IfHonest d (IfOk r (λ n. take n w ≡ take n (drop at (content d.slots file))))
    → IfHonest d (IfOk r (λ n. at + n ≤ length (content d.slots file)))
    → ReadsPart f
    (with_store f (with_arena (filling_store f) (with_bytes (filling_store f).arena (filling_part f i).first w))) i
    left d file at r
wrote f i w filling len was grows count read inside = record {
  writes =
      record {
        reserved = refl;
        same_reference = refl;
        filling =
            same_held (filling_store f) f.reserved _ refl refl filling;
        fills =
            same_fills (filling_store f) _ (filling_parts f) refl grows;
        entries = refl;
      };
  written = w;
  len = len;
  there = refl;
  was = was;
  count = count;
  read = read;
  inside = inside;
}

pub returns-in-Err-clause-asks : goal.returns-in-Err-clause-asks
returns-in-Err-clause-asks g c =
    (let e = c.in-Err.ensures.asks in record { honest = e.honest; slots = e.slots; counts = e.counts })

pub returns-in-Err-clause-reads : goal.returns-in-Err-clause-reads
returns-in-Err-clause-reads g c =
    let w = c.read_part.new.part in
    let lent = c.part_mut-part.ensures.shows in
    wrote c.args.filling.now c.args.i w c.requires.filling (c.read_part.auto.part ∙ lent.len)
    (sym (ap length lent.value) ∙ lent.len) (lent.keeps.each w (omega (arith, c.read_part.auto.part, lent.len))) tt
    (λ y. tt) (λ y. tt)

pub returns-in-Ok-clause-asks : goal.returns-in-Ok-clause-asks
returns-in-Ok-clause-asks g c =
    (let e = c.in-Ok.ensures.asks in record { honest = e.honest; slots = e.slots; counts = e.counts })

pub returns-in-Ok-clause-reads : goal.returns-in-Ok-clause-reads
returns-in-Ok-clause-reads g c =
    let w = c.read_part.new.part in
    let lent = c.part_mut-part.ensures.shows in
    wrote c.args.filling.now c.args.i w c.requires.filling (c.read_part.auto.part ∙ lent.len)
    (sym (ap length lent.value) ∙ lent.len) (lent.keeps.each w (omega (arith, c.read_part.auto.part, lent.len)))
    (search (rules)) c.in-Ok.ensures.reads.read c.in-Ok.ensures.reads.inside
