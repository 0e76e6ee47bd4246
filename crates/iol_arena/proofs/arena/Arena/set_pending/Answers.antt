use Rattle.std.proofs.Common.{◌≡◌, ℕ, arith, ap, sym, subst, ◌^◌, ◌<◌, ◌∙◌, Bool, true, false, not, refl}
use Rattle.iol_arena.specs.State.{State, CanMark, with_marked, kind_head}
use Rattle.iol_arena.specs.WriteSteps.{reserved_kind}
use Rattle.iol_arena.specs.Buffers.{Grows}
use Rattle.iol_arena.specs.declared.pages.PageKind.TheVariants.{Head, Tail}
use Rattle.iol_arena.proofs.Marks.{sound_runs, can_mark}
use Rattle.iol_arena.proofs.Keeps.{marks_spare}
use Rattle.iol_arena.proofs.Grows.{marks_grow}
use Rattle.iol_arena.proofs.arena.Arena.set_pending.Goals as goal

-- a page of neither kind begins a buffer
no_head : (b : Bool) (n : ℕ) → reserved_kind b ≡ Head n → ⊥
no_head true n e = cc
no_head false n e = cc

no_tail : (b : Bool) (p : ℕ) → reserved_kind b ≡ Tail p → ⊥
no_tail true p e = cc
no_tail false p e = cc

bare : (b : Bool) → kind_head (reserved_kind b) ≡ false
bare true = refl
bare false = refl

pub set_run-requires : goal.set_run-requires
set_run-requires c =
    let es = c.args.self.now.entries in
    let p = c.args.part in
    let b = c.args.pending in
    let runs = sound_runs c.self.invariant.sound c.self.view_is in
    let small : c.args.self.now.limit < 2 ^ 32 = omega (arith, ap (λ s. s.limit) c.self.view_is) in
    subst (λ k. CanMark es p.first p.count k 0) (sym c.reserved_kind.ensures)
    (can_mark es p.first p.count (reserved_kind (not b)) (reserved_kind b) 0 c.args.self.now.limit runs
    c.requires.within c.requires.each c.requires.below (no_tail (not b)) (no_head b) small (omega arith))

pub returns : goal.returns
returns c =
    let s = c.args.self.now in
    let p = c.args.part in
    let b = c.args.pending in
    let was = reserved_kind (not b) in
    let now = reserved_kind b in
    let is = c.set_run.ensures ∙ ap (λ k. with_marked s p.first p.count k 0) c.reserved_kind.ensures in
    record {
      arena = is;
      grows =
          subst (λ x. Grows s x) (sym is) (marks_grow s p.first p.count was now 0 c.requires.within c.requires.each
          (bare (not b)) (bare b) (no_head b));
      spares = marks_spare s c.set_run.new.self p.first p.count was now 0 (ap (λ (x : State). x.entries) is)
          c.requires.within c.requires.each (bare (not b)) (bare b);
    }
