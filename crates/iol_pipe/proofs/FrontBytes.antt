-- The bytes of a queue, of its front and of the rest, for any reading of places.
use Rattle.std.proofs.Common.{◌≡◌, ℕ, ◌+◌, cond, List, [], ◌∷◌, map, length, take, drop, Some, refl, sym, ap, ◌∙◌}
use Rattle.std.specs.List.{take_while, prefix_len, slice_get}
use Rattle.std.specs.Option.{option_map}
use Rattle.std.proofs.lemmas.List.{take-map}
use Rattle.iol_core.specs.Text.{admitted}
use Rattle.iol_pool.specs.Pools.{Pool, names_in}
use Rattle.iol_hold.specs.declared.slices.Slice.{Slice}
use Rattle.iol_hold.specs.Places.{Place, places, byte_len}
use Rattle.iol_hold.specs.Layout.{read, KeepsPools}
use Rattle.iol_hold.proofs.AtPlaces.{length-read, read_rest}
use Rattle.iol_pipe.specs.Queue.{first_pool, may_see}

-- the readable prefix of the bytes is as long as that of the places
prefix_len-read : (f : Place → ℕ × ℕ) → KeepsPools f → (ps : List Pool) (d : ℕ) (qs : List Place)
    → prefix_len (λ b. names_in ps b.1 d) (map f qs) ≡ prefix_len (may_see ps d) qs
prefix_len-read f keeps ps d [] = refl
prefix_len-read f keeps ps d (q ∷ qs) =
    ap (λ n. cond (names_in ps (f q).1 d) (1 + n) 0) (prefix_len-read f keeps ps d qs)
    ∙ ap (λ p. cond (names_in ps p d) (1 + prefix_len (may_see ps d) qs) 0) (keeps q)

pub read_given : (f : Place → ℕ × ℕ) → KeepsPools f → (given old : List Slice) (ps : List Pool) (d : ℕ) (n : ℕ)
    → places given ≡ take_while (may_see ps d) (take n (places old))
    → read f given ≡ admitted (λ p. names_in ps p d) (take n (read f old))
read_given f keeps given old ps d n e =
    let first : List Place = take n (places old) in
    ap (map f) e ∙ sym (take-map f (prefix_len (may_see ps d) first) first)
    ∙ ap (λ k. take k (map f first)) (sym (prefix_len-read f keeps ps d first))
    ∙ ap (admitted (λ p. names_in ps p d)) (sym (take-map f n (places old)))

-- the bytes left after the front
pub read_left : (f : Place → ℕ × ℕ) → KeepsPools f → (given new old : List Slice) (ps : List Pool) (d : ℕ) (n : ℕ)
    → places given ≡ take_while (may_see ps d) (take n (places old)) → places new ≡ drop (byte_len given) (places old)
    → read f new ≡ drop (length (admitted (λ p. names_in ps p d) (take n (read f old)))) (read f old)
read_left f keeps given new old ps d n e rest =
    read_rest f new old (byte_len given) rest
    ∙ ap (λ k. drop k (read f old)) (sym (length-read f given) ∙ ap length (read_given f keeps given old ps d n e))

pub first_pool-read : (f : Place → ℕ × ℕ) → KeepsPools f → (xs : List Slice)
    → first_pool xs ≡ option_map (λ b. b.1) (slice_get (read f xs) 0)
first_pool-read f keeps xs = first (places xs)
  where
    first : (ps : List Place)
        → option_map (λ p. p.pool) (slice_get ps 0) ≡ option_map (λ b. b.1) (slice_get (map f ps) 0)
    first [] = refl
    first (p ∷ ps) = ap (λ n. Some n) (sym (keeps p))
