use Rattle.std.proofs.Common.{◌≡◌, [], ◌∷◌, arith, refl, sym, ap, ◌∙◌, subst}
use Rattle.iol_core.specs.declared.numbers.BufId.{BufId}
use Rattle.iol_arena.specs.State.{State, HasRuns, page_count}
use Rattle.iol_arena.specs.Buffers.{IsLive, Keeps, Frees, with_freed}
use Rattle.iol_hold.specs.StoreState.{Stored, count_of, AllReclaimedBut, IsTidy, with_arena}
use Rattle.iol_hold.proofs.EmptyPools.{reclaimed_freed}
use Rattle.iol_hold.specs.Moves.{Moves}
use Rattle.iol_hold.specs.View.{stored}
use Rattle.iol_hold.proofs.Counts.{live_of}
use Rattle.iol_hold.proofs.LastHolds.{freed_moves, freed_tidy, length-with_freed}
use Rattle.iol_hold.specs.Releases.{FreesBuffer, FreesOnly}
use Rattle.iol_hold.proofs.Releases.{frees_one}
use Rattle.iol_hold.proofs.store.Store.free.Goals as goal

pub free-requires : goal.free-requires
free-requires c =
    live_of (stored c.self.inside) c.args.buf
    (omega (arith, subst (λ x. count_of x c.args.buf ≡ 1) (sym c.self.view_is) c.requires))

one : (c : goal.After-free) → count_of (stored c.self.inside) c.args.buf ≡ 1
one c = subst (λ x. count_of x c.args.buf ≡ 1) (sym c.self.view_is) c.requires

live : (c : goal.After-free) → IsLive c.self.inside.arena c.args.buf
live c = live_of (stored c.self.inside) c.args.buf (omega (arith, one c))

freed : (c : goal.After-free)
    → Frees c.self.inside.arena (with_freed c.self.inside.arena c.args.buf.page) c.args.buf.page
freed c = subst (λ a. Frees c.self.inside.arena a c.args.buf.page) c.free.ensures.arena c.free.ensures.frees

tidy : (c : goal.After-free) → IsTidy (with_arena (stored c.self.inside) c.free.new.self)
tidy c =
    let s : Stored = stored c.self.inside in
    subst (λ a. IsTidy (with_arena s a)) (sym c.free.ensures.arena)
    (freed_tidy s c.args.buf (one c) (freed c) c.self.invariant.tidy)

pub invariant_of-self : goal.invariant_of-self
invariant_of-self c = record {
  counts = c.self.invariant.counts ∙ sym (length-with_freed c.self.inside.arena c.args.buf.page)
      ∙ sym (ap page_count c.free.ensures.arena);
  tidy = tidy c;
}

pub returns : goal.returns
returns c =
    let s : Stored = stored c.self.inside in
    let b : BufId = c.args.buf in
    let e = c.free.ensures in
    let was = c.self.invariant.tidy in
    subst (λ x. FreesBuffer x (with_arena s c.free.new.self) b) c.self.view_is (record {
      moves =
          subst (λ a. Moves s (with_arena s a) (b ∷ []) []) (sym e.arena)
          (freed_moves s b (one c) (freed c) (subst (λ a. Keeps s.arena a) e.arena e.keeps));
      pools = refl;
      frees =
          subst (λ a. FreesOnly s (with_arena s a)) (sym e.arena)
          (frees_one s b e.runs (subst (λ (a : State). HasRuns a.entries) e.arena e.runs_after) (live c));
      others =
          λ p home all. subst (λ a. AllReclaimedBut p (with_arena s a)) (sym e.arena)
          (reclaimed_freed s b p was.runs was.owned (live c) home all);
      tidy = tidy c;
    })
