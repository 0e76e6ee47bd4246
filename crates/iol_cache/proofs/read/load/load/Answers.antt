use Rattle.std.proofs.Common.{Err, subst, ◌+◌, ◌≡◌, ◌∙◌, ◌≤◌, [], ◌∷◌, ap, length, List, ℕ, refl, arith, rules}
use Rattle.std.proofs.lemmas.List.{length-take-le, length-append}
use Rattle.std.proofs.lemmas.List.FromFn.{length-range_with_len}
use Rattle.std.specs.List.{All, range_with_len}
use Rattle.iol_arena.specs.Chunks.{free_pages}
use Rattle.iol_arena.specs.Pages.{IsSameBut}
use Rattle.iol_arena.specs.Parts.{AreApart, part_pages}
use Rattle.iol_arena.specs.State.{pages_for}
use Rattle.iol_arena.specs.declared.pages.Part.{Part}
use Rattle.iol_core.specs.declared.refusals.Refusal.TheVariants.{Fault, NoRoom}
use Rattle.iol_pool.specs.Pools.{pool_in}
use Rattle.iol_hold.specs.Fillings.{filling_bytes, filling_parts}
use Rattle.iol_hold.specs.Pages.{KeepsPages}
use Rattle.iol_hold.specs.Room.{lowest_of}
use Rattle.iol_hold.specs.StoreState.{AllReclaimed, Buffer, Stored}
use Rattle.iol_hold.specs.declared.parts.Reserved.{Reserved}
use Rattle.iol_hold.proofs.EmptyPools.{all_reclaimed_placed}
use Rattle.iol_cache.specs.Loads.{LoadsHolds}
use Rattle.iol_cache.proofs.RangeReads.PageSteps.{few_free, keeps_abandoned, loaded, placed_all}
use Rattle.iol_cache.proofs.read.load.load.Goals as goal

pub fill_parts-requires : goal.fill_parts-requires
fill_parts-requires g c =
    let s = c.args.store.now in record {
      some = c.requires.some;
      fits = c.requires.fits;
      filling = c.in-Ok.ensures.begins.filling;
      long = ap length c.in-Ok.ensures.begins.pages
          ∙ length-take-le (pages_for c.args.n) (free_pages s.arena (pool_in s.pools c.args.pool).chunks)
          c.in-Ok.ensures.begins.enough;
    }

pub returns-in-Err-clause-keeps : goal.returns-in-Err-clause-keeps
returns-in-Err-clause-keeps g c = record {
  none = search (rules);
  kept = search (rules);
  pools = search (rules);
  reclaims = search (rules);
  no_room =
      λ p is. few_free c.args.store.now c.args.pool c.args.n (c.in-Err.ensures.begins.no_room p (ap (λ x. Err x) is));
  late = search (rules);
}

parts_are : (r q : Reserved) → r ≡ q → r.reservation.parts.items ≡ q.reservation.parts.items
parts_are r q e = ap (λ (x : Reserved). x.reservation.parts.items) e

parts_few : (low : ℕ) (ps : List Part) → AreApart low ps → length ps ≤ length (part_pages ps)
parts_few low [] apart = omega arith
parts_few low (p ∷ ps) apart = let h = parts_few (p.first + p.count) ps apart.1 in
    omega (
      arith,
      h,
      apart.0.some,
      length-append (range_with_len p.first p.count) (part_pages ps),
      length-range_with_len p.first p.count,
    )

pub returns-in-Ok-fill_parts-clause-loads : goal.returns-in-Ok-fill_parts-clause-loads
returns-in-Ok-fill_parts-clause-loads g c =
    let s = c.args.store.now in
    let b = c.in-Ok.ensures.begins in
    let w = c.fill_parts.ensures.writes in
    let r = c.in-Ok-fill_parts.ensures.reads in
    let e = c.publish.ensures in
    let ps = filling_parts c.in-Ok.filling in
    let parts = parts_are _ _ w.reserved in
    let pool = ap (λ (x : Reserved). x.pool) w.reserved ∙ b.pool in
    let made = placed_all ps (filling_parts c.fill_parts.new.filling) c.args.pool c.args.n parts b.pages b.enough
    b.fills b.others b.free w.fills w.entries e.publishes e.made e.made_on e.others e.free e.tidy in
    let P : Stored → Type 0 = λ d. LoadsHolds s d c.args.pool c.args.n (g.B.Backing.disk c.args.backing.now) c.args.file
    c.args.at c.publish.result in
    subst P (search rules) (loaded c.publish.result (g.B.Backing.disk c.args.backing.now) c.args.file c.args.at made
    e.filled (subst (λ p. All (λ (h : Buffer). h.pool ≡ p) c.publish.result) pool e.pool)
    (omega (
      arith,
      e.few,
      ap length parts,
      parts_few 0 ps b.filling.pages.apart,
      ap length b.pages,
      length-take-le (pages_for c.args.n) (free_pages s.arena (pool_in s.pools c.args.pool).chunks) b.enough,
    ))
    (ap length e.value ∙ length-take-le c.args.n (filling_bytes c.fill_parts.new.filling) r.whole) (λ y. e.value
    ∙ r.read y) r.inside)

pub returns-in-Ok-fill_parts-clause-keeps : goal.returns-in-Ok-fill_parts-clause-keeps
returns-in-Ok-fill_parts-clause-keeps g c =
    let s = c.args.store.now in
    let m = (returns-in-Ok-fill_parts-clause-loads g c).placed.pages in
    record {
      none = tt;
      kept = tt;
      pools = m.pools;
      reclaims =
          λ all. all_reclaimed_placed s _ (pool_in s.pools c.args.pool).chunks (pages_for c.args.n) m.pools m.others
          all;
      no_room = tt;
      late = tt;
    }

pub returns-in-Err-fill_parts-clause-keeps : goal.returns-in-Err-fill_parts-clause-keeps
returns-in-Err-fill_parts-clause-keeps g c =
    let s = c.args.store.now in
    let w = c.fill_parts.ensures.writes in
    let e = c.abandon.ensures in
    let qs = filling_parts c.fill_parts.new.filling in
    let placed = lowest_of s c.args.pool c.args.n in
    let gone =
    keeps_abandoned (filling_parts c.in-Ok.filling) qs placed (parts_are _ _ w.reserved)
    c.in-Ok.ensures.begins.pages c.in-Ok.ensures.begins.fills c.in-Ok.ensures.begins.others w.fills w.entries
    e.publishes e.unraised e.others e.returned in
    let P : Stored → Type 0 = λ t. KeepsPages s t [] in
    let Q : Stored → Type 0 = λ t. AllReclaimed s → AllReclaimed t in
    let f = λ (d : Stored) (m : KeepsPages s d [] × IsSameBut placed s.arena d.arena × (d.pools ≡ s.pools))
    (all : AllReclaimed s). all_reclaimed_placed s d (pool_in s.pools c.args.pool).chunks (pages_for c.args.n) m.2
    m.1 all in
    record {
      none = search (rules);
      kept = subst P (search rules) gone.0;
      pools = search (rules);
      reclaims = subst Q (search rules) (f _ gone);
      no_room = λ p is. absurd (let other : Fault c.args.file ≡ NoRoom p = is in cc);
      late = refl;
    }
