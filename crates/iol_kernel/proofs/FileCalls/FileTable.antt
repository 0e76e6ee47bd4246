-- Files in the kernel's table, as the machine sees them.
use Rattle.std.proofs.Common.{◌≡◌, ◌∙◌, ℕ, ◌+◌, Bool, true, false, List, [], ◌∷◌, ◌++◌, length, Option, Some, None}
use Rattle.std.proofs.Common.{refl, sym, ap, subst, arith, inl, inr}
use Rattle.std.specs.Prelude.{◌==◌, ◌||◌, bytes_eq, cond, is_some, nat_eq, nat_lt, not, position}
use Rattle.std.specs.Cmp.Lexicographic.{nat_list_eq_equiv}
use Rattle.std.specs.Global.{Vec}
use Rattle.std.specs.List.{list_any, position_or_len}
use Rattle.std.specs.Map.{keys_of, lookup}
use Rattle.std.proofs.lemmas.Bool.{cases_Bool, cases_eq}
use Rattle.std.proofs.lemmas.Bool.Decides.{nat_tests}
use Rattle.std.proofs.lemmas.List.{length-map}
use Rattle.std.proofs.lemmas.List.Folds.{list_any-append}
use Rattle.std.proofs.lemmas.Map.Made.{is_some-lookup}
use Rattle.indexmap.specs.IndexSet.{insert_key}
use Rattle.iol_core.specs.State as machine
use Rattle.iol_kernel.specs.Files.{AreUsed, file_of, files_of}

abbrev Entries : Type 0
Entries = List (Vec ℕ × ℕ)

-- the test of a map's keys for a name
abbrev pub has_name : List ℕ → Vec ℕ → Bool
has_name name k = bytes_eq name k.items

turned : (name : List ℕ) (k : Vec ℕ) → has_name name k ≡ bytes_eq k.items name
turned name k = nat_list_eq_equiv.symm name k.items

-- the first key that is the name has the index of the first file of that name
pub position-named : (name : List ℕ) (es : Entries)
    → position (has_name name) (keys_of es) ≡ position (λ f. bytes_eq f.name name) (files_of es)
position-named name es = λ i. cond (nat_lt (place es i) (count i)) (Some (place es i)) None
  where
    count : length (keys_of es) ≡ length (files_of es)
    count = length-map es (λ e. e.0) ∙ sym (length-map es file_of)

    place : (ys : Entries)
        → position_or_len (has_name name) (keys_of ys) ≡ position_or_len (λ (f : machine.File). bytes_eq f.name name)
        (files_of ys)
    place [] = refl
    place (y ∷ ys) = λ i. cond (not (turned name y.0 i)) (1 + place ys i) 0

any-named : (name : List ℕ) (es : Entries)
    → list_any (has_name name) (keys_of es) ≡ list_any (λ f. bytes_eq f.name name) (files_of es)
any-named name [] = refl
any-named name (e ∷ es) = λ i. turned name e.0 i || any-named name es i

pub has-named : (name : List ℕ) (es : Entries)
    → is_some (lookup (has_name name) es) ≡ list_any (λ f. bytes_eq f.name name) (files_of es)
has-named name es = is_some-lookup (has_name name) es ∙ any-named name es

none_from : {A : Type 0} (o : Option A) → is_some o ≡ false → o ≡ None
none_from None none = refl
none_from (Some x) none = cc none

-- a new name is no key of the map
pub new_name : (name : Vec ℕ) (es : Entries) → list_any (λ f. bytes_eq f.name name.items) (files_of es) ≡ false
    → lookup (has_name name.items) es ≡ None
new_name name es new = none_from (lookup (has_name name.items) es) (has-named name.items es ∙ new)

-- The pools of files.

used-key : (used : List ℕ) (p q : ℕ)
    → list_any (nat_eq q) (insert_key nat_eq used p) ≡ (list_any (nat_eq q) used || (p == q))
used-key used p q = elim (cases_Bool (list_any (nat_eq p) used)) [
  | inl there ↦ elim (cases_eq p q) [
    | inl same ↦
        (let found : list_any (nat_eq q) used ≡ true = subst (λ n. list_any (nat_eq n) used ≡ true) same there in
        grind (arith, nat_tests, there, found, same))
    | inr other ↦ grind (arith, nat_tests, there, other)
  ]
  | inr lacks ↦ (let more = list_any-append (nat_eq q) used (p ∷ []) in elim (cases_eq p q) [
    | inl same ↦ grind (arith, nat_tests, lacks, more, same)
    | inr other ↦ grind (arith, nat_tests, lacks, more, other)
  ])
]

pub used-push : (files : List machine.File) (used : List ℕ) (name : List ℕ) (p : ℕ) → AreUsed files used
    → AreUsed (files ++ (let f : machine.File = record { name = name; pool = p } in f) ∷ []) (insert_key nat_eq used p)
used-push files used name p are =
    let f : machine.File = record { name = name; pool = p } in
    let of : (q : ℕ) → machine.File → Bool = λ q x. x.pool == q in
    record {
      each = λ q. used-key used p q ∙ ap (λ b. b || (p == q)) (are.each q)
          ∙ last (list_any (of q) files) (p == q) ∙ sym (list_any-append (of q) files (f ∷ []));
    }
  where
    last : (a b : Bool) → (a || b) ≡ (a || (b || false))
    last true b = refl
    last false true = refl
    last false false = refl
