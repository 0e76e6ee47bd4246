-- Pages that can be had are those that are not pinned.
use Rattle.std.proofs.Common.{inl, inr, ◌≡◌, ℕ, suc, ◌+◌, ◌≤◌, Bool, true, false, cond, List, [], ◌∷◌, length, get_or}
use Rattle.std.proofs.Common.{Option, Some, refl, sym, ap, ◌∙◌, arith}
use Rattle.std.specs.Prelude.{not, nat_lt, nat_le, ◌||◌, ◌&&◌}
use Rattle.std.specs.List.{filter}
use Rattle.std.proofs.lemmas.Bool.{cases_eq}
use Rattle.std.proofs.lemmas.Bool.Decides.{nat_tests}
use Rattle.iol_core.specs.declared.numbers.BufId.{BufId}
use Rattle.iol_arena.specs.State.{State, entry_at, generation_at}
use Rattle.iol_arena.specs.Buffers.{IsLive, kind_len}
use Rattle.iol_arena.specs.Firsts.{first_on}
use Rattle.iol_arena.specs.declared.pages.PageKind as kind
use Rattle.iol_hold.specs.Reclaimable.{is_reclaimable, is_spared, reclaimable_pages}
use Rattle.iol_hold.specs.Releases.{buf_at}
use Rattle.iol_hold.specs.Room.{free_of, pages_of}
use Rattle.iol_hold.specs.StoreState.{Stored, count_of}
use Rattle.iol_hold.specs.Moves.{tally}
use Rattle.iol_hold.proofs.Counts.{count_live}
use Rattle.iol_cache.specs.CacheState.{Cached, clean_held}
use Rattle.iol_cache.specs.PinnedPages.{is_begun, is_pinned, pinned_beside}
use Rattle.iol_cache.specs.Sound.{IsSound}
use Rattle.iol_cache.proofs.Evictions.FreePages.{at_most}
use Rattle.iol_cache.proofs.Extents.HeldSlices.{mark_is}

buf_is : (s : State) (b : BufId) → IsLive s b → buf_at s b.page ≡ b
buf_is s b live = λ i. (let x : BufId = record { page = b.page; generation = live.generation i } in x)

opposite : (m n : ℕ) → nat_le m n ≡ not (nat_lt n m)
opposite m n = grind (arith, nat_tests)

spared_live : (s : Stored) (c : Cached) (b : BufId) → IsSound s c → IsLive s.arena b
    → is_spared s c.marks (Some b.page) ≡ not (is_begun s (clean_held c.files) (Some b.page))
spared_live s c b sound live =
    let count : count_of s b ≡ get_or s.counts b.page 0 = count_live s b live in
    let mark : get_or c.marks b.page 0 ≡ tally b (clean_held c.files) =
    mark_is c.files b sound.covered sound.marked live in
    ap (λ n. nat_le n (get_or c.marks b.page 0)) (sym count) ∙ ap (nat_le (count_of s b)) mark
    ∙ opposite (count_of s b) (tally b (clean_held c.files))
    ∙ sym (ap (λ x. not (nat_lt (tally x (clean_held c.files)) (count_of s x))) (buf_is s.arena b live))

spared_is : (s : Stored) (c : Cached) (q : ℕ) → IsSound s c → is_spared s c.marks (first_on (entry_at s.arena q).kind q)
    ≡ not (is_begun s (clean_held c.files) (first_on (entry_at s.arena q).kind q))
spared_is s c q sound = elim (sound.tidy.placed q) [
  | inl free ↦ ap (λ (k : kind.PageKind). is_spared s c.marks (first_on k q)) free
      ∙ sym (ap (λ (k : kind.PageKind). not (is_begun s (clean_held c.files) (first_on k q))) free)
  | inr r ↦ elim r [
    | inl waits ↦ absurd (sound.still.each q waits)
    | inr in_it ↦ (
        let b = in_it.0 in
        let first : first_on (entry_at s.arena q).kind q ≡ Some b.page = elim (cases_eq q b.page) [
          | inl e ↦ ap (λ n. first_on (entry_at s.arena n).kind n) e
              ∙ ap (λ (k : kind.PageKind). first_on k b.page) in_it.1.head
          | inr ne ↦
              (let lies = in_it.2 in
              ap (λ (k : kind.PageKind). first_on k q)
              ((sound.tidy.runs.each b.page (kind_len (entry_at s.arena b.page).kind) in_it.1.head).tails q
              (omega (arith, lies.from, ne)) lies.to))
        ] in
        ap (is_spared s c.marks) first ∙ spared_live s c b sound in_it.1
        ∙ sym (ap (λ (o : Option ℕ). not (is_begun s (clean_held c.files) o)) first))
  ]
]

both : (l a b : Bool) → a ≡ not b → (l && a) ≡ not (not l || b)
both true a b h = h
both false a b h = refl

reclaimable_is : (s : Stored) (c : Cached) (q : ℕ) → IsSound s c
    → is_reclaimable s c.marks q ≡ not (is_pinned s (clean_held c.files) q)
unfolding is_pinned
reclaimable_is s c q sound =
    both (nat_lt (generation_at s.arena q) s.arena.limit) (is_spared s c.marks (first_on (entry_at s.arena q).kind q))
    (is_begun s (clean_held c.files) (first_on (entry_at s.arena q).kind q)) (spared_is s c q sound)

all_of : (f g : ℕ → Bool) (qs : List ℕ) → ((q : ℕ) → f q ≡ not (g q))
    → length (filter f qs) + length (filter g qs) ≡ length qs
all_of f g [] h = refl
all_of f g (q ∷ qs) h = one (f q) (g q) (h q) (all_of f g qs h)
  where
    one : (a b : Bool) → a ≡ not b → length (filter f qs) + length (filter g qs) ≡ length qs
        → length (cond a (q ∷ filter f qs) (filter f qs)) + length (cond b (q ∷ filter g qs) (filter g qs))
        ≡ suc (length qs)
    one true true e ih = absurd (let x : ◌≡◌ {A = Bool} true false = e in cc)
    one true false e ih = omega (arith, ih)
    one false true e ih = omega (arith, ih)
    one false false e ih = absurd (let x : ◌≡◌ {A = Bool} false true = e in cc)

pub reclaimable_count : (s : Stored) (c : Cached) (p : ℕ) → IsSound s c
    → length (reclaimable_pages s c.marks p) + pinned_beside s (clean_held c.files) p ≡ length (pages_of s p)
reclaimable_count s c p sound =
    all_of (is_reclaimable s c.marks) (is_pinned s (clean_held c.files)) (pages_of s p)
    (λ q. reclaimable_is s c q sound)

pub free_fits : (s : Stored) (c : Cached) (p : ℕ)
    → length (free_of s p) + pinned_beside s (clean_held c.files) p ≤ length (pages_of s p)
free_fits s c p = at_most s (clean_held c.files) (pages_of s p)
