-- The first byte that a domain may not read, found by slices: each has a byte, and all its bytes are of one pool.
use Rattle.std.proofs.Common.{◌≡◌, ℕ, zero, suc, ◌+◌, ◌-◌, Bool, not, cond, true, false, Option, Some, List, [], ◌∷◌}
use Rattle.std.proofs.Common.{◌++◌, map, refl, sym, ap, ◌∙◌, arith}
use Rattle.std.specs.List.{find, range_with_len}
use Rattle.std.specs.Option.{option_map}
use Rattle.std.proofs.lemmas.List.{map-append}
use Rattle.iol_core.specs.Text.{Text, barred}
use Rattle.iol_core.specs.State as machine
use Rattle.iol_core.specs.State.{State}
use Rattle.iol_pool.specs.Pools.{names_in}
use Rattle.iol_hold.specs.Layout as layout
use Rattle.iol_hold.specs.Places.{Place, place_in, slice_places, places}
use Rattle.iol_hold.specs.declared.slices.Slice.{Slice}
use Rattle.iol_kernel.specs.Denials.{pool_hidden}
use Rattle.iol_kernel.specs.KernelState.{KernelState, read_of}
use Rattle.iol_kernel.specs.Readings.{Reading, read, KeepsPools}
use Rattle.iol_kernel.proofs.State.ReadOf.{may_read-read_of}

barred-cons : (may : ℕ → Bool) (b : ℕ × ℕ) (t : Text)
    → barred may (b ∷ t) ≡ cond (not (may b.1)) (Some b.1) (barred may t)
barred-cons may b t = first (not (may b.1))
  where
    first : (c : Bool) → option_map (λ x. x.1) (cond c (Some b) (find (λ x. not (may x.1)) t))
        ≡ cond c (Some b.1) (barred may t)
    first true = refl
    first false = refl

twice : (c : Bool) (x y : Option ℕ) → cond c x (cond c x y) ≡ cond c x y
twice true x y = refl
twice false x y = refl

module _ (may : ℕ → Bool) (f : Place → ℕ × ℕ) (keeps : layout.KeepsPools f) where
  -- of a slice's bytes, one at least, and others after them
  barred-run : (x : Slice) (from m : ℕ) (rest : Text)
      → barred may (map f (map (place_in x) (range_with_len from (suc m))) ++ rest) ≡ cond (not (may x.hold.pool))
      (Some x.hold.pool) (barred may rest)
  barred-run x from zero rest =
      barred-cons may (f (place_in x from)) rest
      ∙ ap (λ p. cond (not (may p)) (Some p) (barred may rest)) (keeps (place_in x from))
  barred-run x from (suc m) rest =
      let run : Text = map f (map (place_in x) (range_with_len (from + 1) (suc m))) ++ rest in
      barred-cons may (f (place_in x from)) run
      ∙ ap (λ p. cond (not (may p)) (Some p) (barred may run)) (keeps (place_in x from))
      ∙ ap (cond (not (may x.hold.pool)) (Some x.hold.pool)) (barred-run x (from + 1) m rest)
      ∙ twice (not (may x.hold.pool)) (Some x.hold.pool) (barred may rest)

  barred-slice : (x : Slice) (rest : Text)
      → barred may (map f (slice_places x) ++ rest) ≡ cond (not (may x.hold.pool)) (Some x.hold.pool) (barred may rest)
  barred-slice x rest =
      let some = x.some in
      let len : x.len ≡ suc (x.len - 1) = omega (arith, some) in
      ap (λ n. barred may (map f (map (place_in x) (range_with_len x.from n)) ++ rest)) len
      ∙ barred-run x x.from (x.len - 1) rest

  pub barred-slices : (xs : List Slice)
      → barred may (layout.read f xs) ≡ option_map (λ x. x.hold.pool) (find (λ x. not (may x.hold.pool)) xs)
  barred-slices [] = refl
  barred-slices (x ∷ xs) =
      ap (barred may) (map-append f (slice_places x) (places xs))
      ∙ barred-slice x (layout.read f xs)
      ∙ ap (cond (not (may x.hold.pool)) (Some x.hold.pool)) (barred-slices xs)
      ∙ sym (first (not (may x.hold.pool)))
    where
      first : (c : Bool) → option_map (λ y. y.hold.pool) (cond c (Some x) (find (λ y. not (may y.hold.pool)) xs))
          ≡ cond c (Some x.hold.pool) (option_map (λ y. y.hold.pool) (find (λ y. not (may y.hold.pool)) xs))
      first true = refl
      first false = refl

pub hidden_barred : (f : Reading) → KeepsPools f → (h : KernelState) (to : ℕ) (xs : List Slice)
    → pool_hidden h.store.pools to xs ≡ barred (machine.may_read (read_of f h) to) (read f xs)
hidden_barred f keeps h to xs =
    let same : machine.may_read (read_of f h) to ≡ (λ q. names_in h.store.pools q to) =
    λ i. λ q. may_read-read_of f h to q i in
    sym (ap (λ (may : ℕ → Bool). barred may (read f xs)) same
    ∙ barred-slices (λ q. names_in h.store.pools q to) f.at keeps xs)
