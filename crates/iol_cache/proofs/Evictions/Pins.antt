-- Evictions pin and unpin no page.
use Rattle.std.proofs.Common.{inl, inr, ◌≡◌, ℕ, ◌+◌, Bool, true, false, cond, List, [], ◌∷◌, length, refl, sym, ap, ◌∙◌}
use Rattle.std.proofs.Common.{arith, Option, Some, None}
use Rattle.std.specs.Prelude.{not, nat_lt, ◌||◌}
use Rattle.std.specs.List.{filter}
use Rattle.std.proofs.lemmas.Bool.{cases_lt}
use Rattle.std.proofs.lemmas.Bool.Decides.{nat_tests}
use Rattle.iol_core.specs.declared.numbers.BufId.{BufId}
use Rattle.iol_arena.specs.State.{State, entry_at, generation_at}
use Rattle.iol_arena.specs.declared.pages.PageKind as kind
use Rattle.iol_arena.specs.Firsts.{first_on}
use Rattle.iol_hold.specs.StoreState.{Stored, count_of}
use Rattle.iol_hold.specs.Moves.{tally, Counts}
use Rattle.iol_cache.specs.Marks.{is_held_beside}
use Rattle.iol_hold.specs.Releases.{buf_at, FreesOnly}
use Rattle.iol_cache.specs.PinnedPages.{is_begun, is_pinned}

-- whether something other than clean extents holds the buffer is unchanged
same_test : (l c n o : ℕ) → n + c ≡ o + l → nat_lt l n ≡ nat_lt c o
same_test l c n o e = elim (cases_lt l n) [
  | inl h ↦ grind (arith, nat_tests, h, e)
  | inr h ↦ grind (arith, nat_tests, h, e)
]

pub beside_same : {s t : Stored} {clean left : List BufId} (b : BufId) → Counts s t clean left
    → is_held_beside t left b ≡ is_held_beside s clean b
beside_same {s = s} {t = t} {clean = clean} {left = left} b g =
    same_test (tally b left) (tally b clean) (count_of t b) (count_of s b) (g.each b)

buf_same : (s t : State) (p : ℕ) → generation_at t p ≡ generation_at s p → buf_at t p ≡ buf_at s p
buf_same s t p e = λ i. (let x : BufId = record { page = p; generation = e i } in x)

begun_same : {s t : Stored} {clean left : List BufId} (o : Option ℕ) → FreesOnly s t → Counts s t clean left
    → is_begun t left o ≡ is_begun s clean o
begun_same None f g = refl
begun_same {s = s} {t = t} {left = left} (Some p) f g =
    ap (is_held_beside t left) (buf_same s.arena t.arena p (f.incremented p)) ∙ beside_same (buf_at s.arena p) g

none_begun : {s t : Stored} {clean left : List BufId} (o : Option ℕ) → Counts s t clean left
    → ((p : ℕ) → o ≡ Some p → count_of t (buf_at s.arena p) ≡ 0) → is_begun s clean o ≡ false
none_begun None g zero_of = refl
none_begun {s = s} {t = t} {clean = clean} {left = left} (Some p) g zero_of =
    let b = buf_at s.arena p in
    sym (beside_same b g) ∙ lt_none (tally b left) (count_of t b) (zero_of p refl)
  where
    lt_none : (m n : ℕ) → n ≡ 0 → nat_lt m n ≡ false
    lt_none m n z = grind (arith, nat_tests, z)

-- no page is pinned or unpinned
pub pinned_same : {s t : Stored} {clean left : List BufId} (q : ℕ) → FreesOnly s t → Counts s t clean left
    → is_pinned t left q ≡ is_pinned s clean q
unfolding is_pinned
pinned_same {s = s} {t = t} {clean = clean} {left = left} q f g =
    let last =
    ap not (ap (λ n. nat_lt n t.arena.limit) (f.incremented q) ∙ ap (nat_lt (generation_at s.arena q)) f.limit) in
    let held : is_begun t left (first_on (entry_at t.arena q).kind q)
    ≡ is_begun s clean (first_on (entry_at s.arena q).kind q) = elim (f.each q) [
      | inl same ↦ ap (λ (k : kind.PageKind). is_begun t left (first_on k q)) same
          ∙ begun_same (first_on (entry_at s.arena q).kind q) f g
      | inr free ↦ ap (λ (k : kind.PageKind). is_begun t left (first_on k q)) free
          ∙ sym (none_begun (first_on (entry_at s.arena q).kind q) g (λ p is. f.freed q p free is))
    ] in
    ap (λ b. b || is_begun t left (first_on (entry_at t.arena q).kind q)) last
    ∙ ap (λ b. not (nat_lt (generation_at s.arena q) s.arena.limit) || b) held

-- so their number is the same
pub pinned_kept : {s t : Stored} {clean left : List BufId} (qs : List ℕ) → FreesOnly s t → Counts s t clean left
    → length (filter (is_pinned t left) qs) ≡ length (filter (is_pinned s clean) qs)
pinned_kept [] f g = refl
pinned_kept {s = s} {t = t} {clean = clean} {left = left} (q ∷ qs) f g =
    ap (λ b. length (cond b (q ∷ filter (is_pinned t left) qs) (filter (is_pinned t left) qs))) (pinned_same q f g)
    ∙ one (is_pinned s clean q) (pinned_kept qs f g)
  where
    one : (b : Bool) → length (filter (is_pinned t left) qs) ≡ length (filter (is_pinned s clean) qs)
        → length (cond b (q ∷ filter (is_pinned t left) qs) (filter (is_pinned t left) qs))
        ≡ length (cond b (q ∷ filter (is_pinned s clean) qs) (filter (is_pinned s clean) qs))
    one true e = omega (arith, e)
    one false e = e
