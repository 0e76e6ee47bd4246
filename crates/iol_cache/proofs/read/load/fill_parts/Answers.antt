use Rattle.std.proofs.Common.{◌≡◌, ◌∙◌, ◌*◌, ◌+◌, ◌<◌, sym, ap, length, take, drop, min, List, ℕ, arith, subst}
use Rattle.std.proofs.Common.{flat_map}
use Rattle.std.proofs.lemmas.List.{drop-drop}
use Rattle.std.proofs.Math.Seq.{take-length}
use Rattle.iol_arena.specs.Parts.{part_bytes, part_pages}
use Rattle.iol_arena.specs.declared.pages.Part.{Part}
use Rattle.iol_hold.specs.StoreState.{Stored}
use Rattle.iol_hold.specs.Fillings.{Fill, filling_store, filling_parts}
use Rattle.iol_hold.specs.PendingPages.{Fills}
use Rattle.iol_hold.specs.declared.parts.Reserved.{Reserved}
use Rattle.iol_arena.proofs.Steps.{some_at}
use Rattle.iol_arena.proofs.Marks.{pages_hold}
use Rattle.iol_back.specs.Disk.{content}
use Rattle.iol_hold.proofs.Reservations.{fills_trans}
use Rattle.iol_cache.specs.Loads.{WritesFilling}
use Rattle.iol_cache.proofs.RangeReads.LoadedParts.{one_more, read_more, some_parts}
use Rattle.iol_cache.proofs.read.load.fill_parts.Given.{Over}
use Rattle.iol_cache.proofs.read.load.fill_parts.Goals.{After-loop-i}
use Rattle.iol_cache.proofs.read.load.fill_parts.Goals as goal

parts_are : (r q : Reserved) → r ≡ q → r.reservation.parts.items ≡ q.reservation.parts.items
parts_are r q e = ap (λ (x : Reserved). x.reservation.parts.items) e

-- memory written after memory
then_writes : {f g h : Fill} → WritesFilling f g → WritesFilling g h → WritesFilling f h
then_writes {g = g} {h = h} a b = record {
  reserved = b.reserved ∙ a.reserved;
  same_reference = b.same_reference ∙ a.same_reference;
  filling = b.filling;
  fills =
      fills_trans a.fills (subst (λ (ps : List Part). Fills (filling_store g) (filling_store h) ps)
      (parts_are _ _ a.reserved) b.fills);
  entries = b.entries ∙ a.entries;
}

pub returns-in-Err-clause-writes : goal.returns-in-Err-clause-writes
returns-in-Err-clause-writes g c = then_writes c.loop-i.invariant.writes c.fill_part.ensures.reads.writes

pub loop-i-preserved : goal.loop-i-preserved
loop-i-preserved g c =
    let ps = filling_parts c.args.filling.now in
    let i = c.loop-i.i in
    let v = c.loop-i.invariant in
    let e = parts_are _ _ v.writes.reserved in
    let h : i < length ps = omega (arith, c.part_count-i-end.ensures, c.loop-i-test.true) in
    let r = c.in-Ok.ensures.reads in
    let asks = c.in-Ok.ensures.asks in
    let s = (filling_store c.loop-i.filling).arena in
    let t = (filling_store c.fill_part.new.filling).arena in
    let m = one_more s t ps (filling_parts c.loop-i.filling) i c.args.n c.loop-i.done c.in-Ok.here r.written e
    c.requires.filling.pages.apart h c.requires.long (some_at 0 ps i c.requires.filling.pages.apart h)
    (ap (λ (x : Stored). x.arena) r.there) r.len r.was v.whole v.done r.count in
    record {
      writes = then_writes v.writes r.writes;
      honest = asks.honest ∙ v.honest;
      slots = λ y. asks.slots (v.honest ∙ y) ∙ v.slots y;
      failures = asks.counts.0 ∙ v.failures;
      works = λ y. omega (arith, asks.counts.1, v.failures);
      inside =
          λ y p. omega (
            arith,
            r.inside (v.honest ∙ y),
            ap (λ (slots : List (List ℕ)). length (content slots c.args.file)) (v.slots y),
          );
      within = omega (arith, h);
      whole = m.3.whole;
      done = m.3.done;
      read = λ y. ap (take (c.loop-i.done + c.in-Ok.here)) m.2
          ∙ read_more (flat_map (part_bytes s) (take i ps)) r.written
          (drop c.args.at (content (g.B.Backing.disk c.args.backing.now).slots c.args.file)) c.loop-i.done c.in-Ok.here
          (sym m.0) (v.read y) (r.read (v.honest ∙ y)
          ∙ ap
          (λ (rows : List (List ℕ)). take c.in-Ok.here (drop (c.args.at + c.loop-i.done) (content rows c.args.file)))
          (v.slots y)
          ∙ ap (take c.in-Ok.here)
          (sym (drop-drop c.loop-i.done c.args.at (content (g.B.Backing.disk c.args.backing.now).slots c.args.file))));
    }

-- after the last part
module _ (g : Over) (c : After-loop-i g) where
  abbrev ps : List Part
  ps = filling_parts c.args.filling.now

  all : take c.loop-i.i ps ≡ ps
  all =
      ap (λ k. take k ps) (let i : c.loop-i.i ≡ length ps =
      omega (arith, c.loop-i-test.false, c.part_count-i-end.ensures, c.loop-i.invariant.within) in i) ∙ take-length ps

  whole : c.loop-i.done ≡ c.args.n
  whole = c.loop-i.invariant.done ∙ ap (λ (xs : List Part). min c.args.n (length (part_pages xs) * 4096)) all
      ∙ omega (arith, c.requires.long, pages_hold c.args.n)

  parts : filling_parts c.loop-i.filling ≡ take c.loop-i.i ps
  parts = parts_are _ _ c.loop-i.invariant.writes.reserved ∙ sym all

pub returns-clause-asks : goal.returns-clause-asks
returns-clause-asks g c =
    let at = (goal.at.returns-clause-asks g c).After-loop-i in
    let v = c.loop-i.invariant in
    record {
      honest = v.honest;
      slots = v.slots;
      counts = (
        v.failures,
        v.works
            (omega (
              arith,
              c.loop-i-test.false,
              c.part_count-i-end.ensures,
              some_parts (ps g at) c.args.n c.requires.some c.requires.long,
            )),
      );
    }

pub returns-clause-reads : goal.returns-clause-reads
returns-clause-reads g c =
    let at = (goal.at.returns-clause-reads g c).After-loop-i in
    let v = c.loop-i.invariant in
    let n = whole g at in
    let s = (filling_store c.loop-i.filling).arena in
    let bytes = ap (λ (xs : List Part). length (flat_map (part_bytes s) xs)) (parts g at) in
    record {
      whole =
          omega (
            arith,
            bytes,
            v.whole,
            ap (λ (xs : List Part). length (part_pages xs) * 4096) (all g at),
            c.requires.long,
            pages_hold c.args.n,
          );
      read = λ h. ap (λ (xs : List Part). take c.args.n (flat_map (part_bytes s) xs)) (parts g at)
          ∙ ap (λ k. take k (flat_map (part_bytes s) (take c.loop-i.i (ps g at)))) (sym n) ∙ v.read h
          ∙ ap (λ k. take k (drop c.args.at (content (g.B.Backing.disk c.args.backing.now).slots c.args.file))) n;
      inside = λ h. omega (arith, v.inside h (omega (arith, n, c.requires.some)), n);
    }
