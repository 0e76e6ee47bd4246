-- Slots that are filled from the last file to the first.
use Rattle.std.proofs.Common.{◌≡◌, ℕ, ◌+◌, ◌<◌, ◌≤◌, List, [], ◌∷◌, ◌++◌, length, map, take, Some, slice_get, inl, inr}
use Rattle.std.proofs.Common.{arith, ap, sym, subst, ◌∙◌, append_assoc, length-append}
use Rattle.std.proofs.Math.Seq.{get_or-append_seam}
use Rattle.std.proofs.lemmas.Bool.{cases_eq}
use Rattle.std.proofs.lemmas.Bool.Decides.{nat_tests}
use Rattle.std.proofs.lemmas.Grind.{common_steps}
use Rattle.std.proofs.lemmas.List.{append-nil, map-append, take_more}
use Rattle.std.proofs.lemmas.Option.{get_or_from_slice_get, slice_get_within}
use Rattle.iol_back.specs.Disk.{content, OthersStay}
use Rattle.iol_back.proofs.Contents.{content-none}
use Rattle.iol_tree.specs.Store.{HoldsBytes}

-- the files behind the first `rest` hold their bytes, and these hold none yet
pub record Fills (all rest slots : List (List ℕ)) : Type 0 where
  pub tail : List (List ℕ)
  pub whole : rest ++ tail ≡ all
  pub there : (f : ℕ) → length rest < f → content slots f ≡ content all f
  pub none : (f : ℕ) → f ≤ length rest → content slots f ≡ []

-- at first none holds any
pub fills_none : (all : List (List ℕ)) → Fills all all []
fills_none all = record {
  tail = [];
  whole = append-nil all;
  there = λ f past. content-none [] f (inr (omega (arith, past))) ∙ sym (content-none all f (inr past));
  none = λ f within. elim (cases_eq f 0) [
    | inl zero ↦ content-none [] f (inl zero)
    | inr some ↦ content-none [] f (inr (omega (arith, some)))
  ];
}

-- the file behind the first ones
content-seam : (rest tail : List (List ℕ)) (b : List ℕ) (f : ℕ) → f ≡ length rest + 1 → content (rest ++ b ∷ tail) f ≡ b
unfolding content
content-seam rest tail b f is = let e = get_or-append_seam rest b tail [] in
    grind (arith, nat_tests, common_steps, e, is)

-- the last of those that hold none yet has its bytes appended
pub one_filled : (all rest slots new : List (List ℕ)) (b : List ℕ) (f : ℕ) → Fills all (rest ++ b ∷ []) slots
    → f ≡ length rest + 1
    → content new f ≡ content slots f ++ b → OthersStay f slots new → Fills all rest new
one_filled all rest slots new b f fills is appended others = record {
  tail = b ∷ fills.tail;
  whole = whole;
  there = λ k past. elim (cases_eq k f) [
    | inl same ↦
        subst (λ (i : ℕ). content new i ≡ content all i) (sym same) (bytes
        ∙ sym (subst (λ (l : List (List ℕ)). content l f ≡ b) whole (content-seam rest fills.tail b f is)))
    | inr other ↦ others.each k other ∙ fills.there k (omega (arith, past, other, is, longer))
  ];
  none = λ k within. others.each k (λ e. omega (arith, e, within, is)) ∙ fills.none k (omega (arith, within, longer));
}
  where
    longer : length (rest ++ b ∷ []) ≡ length rest + 1
    longer = length-append rest (b ∷ [])

    whole : rest ++ (b ∷ fills.tail) ≡ all
    whole = sym (append_assoc rest (b ∷ []) fills.tail) ∙ fills.whole

    bytes : content new f ≡ b
    bytes = appended ∙ ap (λ (l : List ℕ). l ++ b) (fills.none f (omega (arith, is, longer)))

-- none is left
pub all_filled : (all rest slots : List (List ℕ)) → length rest ≡ 0 → Fills all rest slots → HoldsBytes all slots
all_filled all rest slots empty fills = record {
  each = λ f. elim (cases_eq f 0) [
    | inl zero ↦ fills.none f (omega (arith, zero)) ∙ sym (content-none all f (inl zero))
    | inr some ↦ fills.there f (omega (arith, some, empty))
  ];
}

-- the lengths of files that are read one after another
pub lengths_more : (lengths : List ℕ) (k : ℕ) (contents : List (List ℕ)) (b : List ℕ)
    → map length contents ≡ take k lengths
    → slice_get lengths k ≡ Some (length b) → map length (contents ++ b ∷ []) ≡ take (k + 1) lengths
lengths_more lengths k contents b are is =
    map-append length contents (b ∷ [])
    ∙ (ap (λ (l : List ℕ). l ++ length b ∷ []) are
    ∙ sym (take_more lengths k (length b) (slice_get_within lengths k (length b) is)
    ∙ ap (λ (n : ℕ). take k lengths ++ n ∷ []) (get_or_from_slice_get lengths k (length b) (length b) is)))
