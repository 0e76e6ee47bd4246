-- Stores whose holds are all known.
use Rattle.std.proofs.Common.{◌≡◌, ℕ, zero, suc, ◌<◌, ◌≤◌, ◌^◌, List, [], ◌∷◌, ◌++◌, replicate, get_or, refl, ap, ◌∙◌}
use Rattle.std.proofs.Common.{arith, subst, Result, Ok, OnOk}
use Rattle.std.specs.Result.{IfOk}
use Rattle.iol_core.specs.declared.numbers.BufId.{BufId}
use Rattle.iol_arena.specs.State.{no_entry}
use Rattle.iol_arena.specs.declared.pages.Entry.{Entry}
use Rattle.iol_hold.specs.StoreState.{Stored, count_in, count_of}
use Rattle.iol_hold.specs.Moves.{tally, Shares, Moves, Covers, IsCountable}
use Rattle.iol_hold.specs.Places.{byte_len}
use Rattle.iol_hold.specs.Texts.{bufs_of}
use Rattle.iol_hold.specs.declared.slices.Slice.{Slice}
use Rattle.iol_hold.proofs.Counts.{tally-append, tally_none, same_few}
use Rattle.iol_hold.proofs.SlicePlaces.{byte_len-cons}
use Rattle.iol_agg.specs.KnownHolds.{IsHeldBy}
use Rattle.iol_agg.proofs.Pours.{tally_thrice}

pub of_ok : {A E : Type 0} (P : A → Type 0) (r : Result A E) (x : A) → IfOk r P → r ≡ Ok x → P x
of_ok {A} {E} P r x h e = subst (λ (r : Result A E). IfOk r P) e h

pub on_ok : {A E P : Type 0} (r : Result A E) (x : A) → OnOk r P → r ≡ Ok x → P
on_ok {A} {E} {P} r x h e = subst (λ (r : Result A E). OnOk r P) e h

free_entry : (n q : ℕ) → get_or (replicate n no_entry) q no_entry ≡ no_entry
free_entry zero q = refl
free_entry (suc n) zero = refl
free_entry (suc n) (suc q) = free_entry n q

-- if all pages are free, no buffer is held
pub held_none : (s : Stored) (n : ℕ) → s.arena.entries ≡ replicate n no_entry → IsHeldBy s []
unfolding count_of tally
held_none s n e =
    record {
      each =
          λ b. ap (λ (x : Entry). count_in x (get_or s.counts b.page 0) b.generation)
          (ap (λ es. get_or es b.page no_entry) e
          ∙ free_entry n b.page);
    }

pub held_on : {s t : Stored} {xs : List BufId} → IsHeldBy s xs → Moves s t [] [] → IsHeldBy t xs
held_on h m = record { each = λ b. omega (arith, h.each b, m.counts.each b, tally_none b) }

pub held_moves : {s t : Stored} {xs ys : List BufId} → IsHeldBy s xs → Moves s t [] ys → IsHeldBy t (xs ++ ys)
held_moves {xs = xs} {ys = ys} h m =
    record { each = λ b. omega (arith, h.each b, m.counts.each b, tally-append b xs ys, tally_none b) }

pub held_covers : {s : Stored} {xs : List BufId} → IsHeldBy s xs → Covers s xs
held_covers h = record { each = λ b. omega (arith, h.each b) }

-- the slices have at most as many holds as bytes, since each slice has a byte
pub tally-few : (b : BufId) (xs : List Slice) → tally b (bufs_of xs) ≤ byte_len xs
unfolding tally
tally-few b [] = omega arith
tally-few b (x ∷ xs) = omega (arith, tally-few b xs, same_few b x.hold.buf, byte_len-cons x xs, x.some)

pub held_countable : {s : Stored} (xs : List Slice) → IsHeldBy s (bufs_of xs) → byte_len xs < 2 ^ 32
    → IsCountable s (bufs_of xs)
held_countable xs h small = record { each = λ b. omega (arith, h.each b, tally-few b xs) }

-- three further holds can be counted for each slice
pub held_thrice : {s : Stored} (xs : List Slice) → IsHeldBy s (bufs_of xs) → byte_len xs < 2 ^ 32
    → IsCountable s (bufs_of xs ++ bufs_of xs ++ bufs_of xs)
held_thrice xs h small =
    record { each = λ b. omega (arith, h.each b, tally-few b xs, tally_thrice b (bufs_of xs) (bufs_of xs)) }

-- holds that were made are covered
pub made_covers : {s t : Stored} {ys : List BufId} → Shares s t [] ys → Covers t ys
made_covers m = record { each = λ b. omega (arith, m.counts.each b, tally_none b) }

pub moved_covers : {s t : Stored} {ys : List BufId} → Moves s t [] ys → Covers t ys
moved_covers m = record { each = λ b. omega (arith, m.counts.each b, tally_none b) }

-- holds that were made are released again
pub held_again : {s t u : Stored} {xs ys : List BufId} → IsHeldBy s xs → Shares s t [] ys → Moves t u ys []
    → IsHeldBy u xs
held_again h m n = record { each = λ b. omega (arith, h.each b, m.counts.each b, n.counts.each b, tally_none b) }
