-- The counts of buffers.
use Rattle.std.proofs.Common.{◌≡◌, ℕ, zero, suc, ◌+◌, ◌<◌, ◌≤◌, ◌⊎◌, inl, inr, List, [], ◌∷◌, ◌++◌, length, get_or}
use Rattle.std.proofs.Common.{refl, sym, ap, ◌∙◌, arith, take, drop, map, Bool, true, false, eqb, cond, subst}
use Rattle.std.proofs.lemmas.List.{get_or-set_same, get_or-set_other, get_or_default, map-append, take_more}
use Rattle.std.proofs.lemmas.List.{take-append-drop}
use Rattle.std.proofs.lemmas.Bool.{cases_eq, eq-eqb, ne_eqb}
use Rattle.iol_core.specs.declared.numbers.BufId.{BufId}
use Rattle.iol_arena.specs.State.{entry_at, kind_head}
use Rattle.iol_arena.specs.Buffers.{IsLive, kind_len}
use Rattle.iol_arena.specs.declared.pages.Entry.{Entry}
use Rattle.iol_arena.specs.declared.pages.PageKind as kind
use Rattle.iol_arena.specs.declared.pages.PageKind.TheVariants.{Free, Pending, Head, Tail}
use Rattle.iol_hold.specs.StoreState.{Stored, Buffer, held_in, count_in, count_of, with_count}
use Rattle.iol_hold.specs.declared.slices.Slice.{Slice}
use Rattle.iol_hold.specs.Texts.{bufs_of}
use Rattle.iol_hold.specs.Moves.{same, tally, Counts}

-- Lists of buffers that are held.

pub tally-append : (b : BufId) (xs ys : List BufId) → tally b (xs ++ ys) ≡ tally b xs + tally b ys
unfolding tally
tally-append b [] ys = omega arith
tally-append b (x ∷ xs) ys = omega (arith, tally-append b xs ys)

pub tally_one : (a b : BufId) → tally a (b ∷ []) ≡ same a b
unfolding tally
tally_one a b = omega arith

pub tally_none : (a : BufId) → tally a [] ≡ 0
unfolding tally
tally_none a = refl

pub same_self : (b : BufId) → same b b ≡ 1
same_self b = rw (eq-eqb b.page b.page refl, eq-eqb b.generation b.generation refl) refl

pub equal_bufs : (a b : BufId) → a.page ≡ b.page → a.generation ≡ b.generation → a ≡ b
equal_bufs a b e g = λ i. record { page = e i; generation = g i }

pub other_page : (a b : BufId) → (a.page ≡ b.page → ⊥) → same a b ≡ 0
other_page a b ne = rw (ne_eqb _ _ ne) refl

pub other_generation : (a b : BufId) → a.page ≡ b.page → (a.generation ≡ b.generation → ⊥) → same a b ≡ 0
other_generation a b e ne = rw (eq-eqb _ _ e, ne_eqb _ _ ne) refl

-- The entry of a page.

pub no_head : (e : Entry) (n g : ℕ) → kind_head e.kind ≡ false → count_in e n g ≡ 0
no_head e n g h = rw h refl

pub absent : (e : Entry) (n g : ℕ) → (e.generation ≡ g → ⊥) → count_in e n g ≡ 0
absent e n g ne = elim (kind_head e.kind) as (λ v. ◌≡◌ {A = ℕ} (cond v (cond (eqb e.generation g) n 0) 0) 0) [
  | true ↦
      rw (ne_eqb e.generation g ne) refl
  | false ↦ refl
]

pub present : (e : Entry) (n g : ℕ) → kind_head e.kind ≡ true → e.generation ≡ g → count_in e n g ≡ n
present e n g h e2 = rw (h, eq-eqb e.generation g e2) refl

bool_cases : (b : Bool) → (b ≡ true) ⊎ (b ≡ false)
bool_cases true = inl refl
bool_cases false = inr refl

head_of : (k : kind.PageKind) → kind_head k ≡ true → k ≡ Head (kind_len k)
head_of Free e = cc
head_of Pending e = cc
head_of (Head n) e = refl
head_of (Tail p) e = cc

-- A held buffer is live.

pub live_head : (s : Stored) (b : BufId) → 0 < count_of s b → kind_head (entry_at s.arena b.page).kind ≡ true
unfolding count_of
live_head s b h =
    elim (bool_cases (kind_head (entry_at s.arena b.page).kind)) [
      | inl e ↦ e
      | inr e ↦
          absurd (omega (arith, no_head (entry_at s.arena b.page) (get_or s.counts b.page 0) b.generation e))
    ]

pub live_generation : (s : Stored) (b : BufId) → 0 < count_of s b → (entry_at s.arena b.page).generation ≡ b.generation
unfolding count_of
live_generation s b h =
    elim (cases_eq (entry_at s.arena b.page).generation b.generation) [
      | inl e ↦ e
      | inr ne ↦
          absurd (omega (arith, absent (entry_at s.arena b.page) (get_or s.counts b.page 0) b.generation ne))
    ]

pub live_of : (s : Stored) (b : BufId) → 0 < count_of s b → IsLive s.arena b
live_of s b h = record {
  head = head_of (entry_at s.arena b.page).kind (live_head s b h);
  generation =
      live_generation s b h;
}

-- and the count of a live buffer is the number stored for its first page
pub count_live : (s : Stored) (b : BufId) → IsLive s.arena b → count_of s b ≡ get_or s.counts b.page 0
unfolding count_of
count_live s b h = present (entry_at s.arena b.page) (get_or s.counts b.page 0) b.generation (ap kind_head h.head)
    h.generation

pub live_count : (s : Stored) (b : BufId) → 0 < count_of s b → get_or s.counts b.page 0 ≡ count_of s b
live_count s b h = sym (count_live s b (live_of s b h))

past : (xs : List ℕ) (i : ℕ) → 0 < get_or xs i 0 → i < length xs
past [] i h = absurd (omega arith)
past (x ∷ xs) zero h = omega arith
past (x ∷ xs) (suc i) h = let ih = past xs i h in omega arith

pub live_within : (s : Stored) (b : BufId) → 0 < count_of s b → b.page < length s.counts
live_within s b h = past s.counts b.page (omega (arith, live_count s b h))

-- the number that the code reads is the count
pub count_read : (s : Stored) (b : BufId) (x : ℕ) → 0 < count_of s b → x ≡ get_or s.counts b.page x → x ≡ count_of s b
count_read s b x h e = e ∙ get_or_default s.counts b.page x 0 (live_within s b h) ∙ live_count s b h

-- Only one buffer's count changes.

pub one_counts : (s t : Stored) (b : BufId) (xs ys : List BufId)
    → ((a : BufId) → (a.page ≡ b.page → ⊥) → count_of t a ≡ count_of s a)
    → ((a : BufId) → a.page ≡ b.page → (a.generation ≡ b.generation → ⊥) → (count_of s a ≡ 0) × (count_of t a ≡ 0))
    → ((a : BufId) → same a b ≡ 0 → tally a xs ≡ tally a ys) → count_of t b + tally b xs ≡ count_of s b + tally b ys
    → Counts s t xs ys
one_counts s t b xs ys off stale others held = record {
  each = λ a. elim (cases_eq a.page b.page) [
    | inl e ↦ elim (cases_eq a.generation b.generation) [
      | inl g ↦
          let P : BufId → Type 0 = λ x. count_of t x + tally x xs ≡ count_of s x + tally x ys in
          subst P (sym (equal_bufs a b e g)) held
      | inr ne ↦ (let none = stale a e ne in omega (arith, none.0, none.1, others a (other_generation a b e ne)))
    ]
    | inr ne ↦ omega (arith, off a ne, others a (other_page a b ne))
  ];
}

-- the count of a live buffer becomes n
pub count_set : (s : Stored) (b : BufId) (n : ℕ) → 0 < count_of s b → count_of (with_count s b.page n) b ≡ n
unfolding count_of
count_set s b n live =
    ap (λ x. count_in (entry_at s.arena b.page) x b.generation)
    (get_or-set_same s.counts b.page n 0 (live_within s b live))
    ∙ present (entry_at s.arena b.page) n b.generation (live_head s b live) (live_generation s b live)

pub set_counts : (s : Stored) (b : BufId) (n : ℕ) (xs ys : List BufId) → 0 < count_of s b
    → ((a : BufId) → same a b ≡ 0 → tally a xs ≡ tally a ys) → n + tally b xs ≡ count_of s b + tally b ys
    → Counts s (with_count s b.page n) xs ys
unfolding count_of
set_counts s b n xs ys live others held =
    let t = with_count s b.page n in
    one_counts s t b xs ys
    (λ a ne. ap (λ x. count_in (entry_at s.arena a.page) x a.generation)
    (get_or-set_other s.counts b.page a.page n 0 ne))
    (λ a e ne. (let now : (entry_at s.arena a.page).generation ≡ a.generation → ⊥ =
    λ g. ne (sym g ∙ ap (λ p. (entry_at s.arena p).generation) e ∙ live_generation s b live) in (
      absent (entry_at s.arena a.page) (get_or s.counts a.page 0) a.generation now,
      absent (entry_at s.arena a.page) (get_or t.counts a.page 0) a.generation now,
    )))
    others (omega (arith, count_set s b n live, held))

-- one hold is added, or one is released
pub one_more : (s : Stored) (b : BufId) → 0 < count_of s b
    → Counts s (with_count s b.page (count_of s b + 1)) [] (b ∷ [])
one_more s b live =
    set_counts s b (count_of s b + 1) [] (b ∷ []) live (λ a e. omega (arith, tally_one a b, tally_none a, e))
    (omega (arith, tally_one b b, same_self b, tally_none b))

pub one_less : (s : Stored) (b : BufId) (n : ℕ) → n + 1 ≡ count_of s b → Counts s (with_count s b.page n) (b ∷ []) []
one_less s b n is = set_counts s b n (b ∷ []) [] (omega arith) (λ a e. omega (arith, tally_one a b, tally_none a, e))
    (omega (arith, is, tally_one b b, same_self b, tally_none b))

-- Slices in a list.

pub bufs-append : (xs ys : List Slice) → bufs_of (xs ++ ys) ≡ bufs_of xs ++ bufs_of ys
bufs-append xs ys = map-append (λ (x : Slice). x.hold.buf) xs ys

pub bufs-push : (xs : List Slice) (x : Slice) → bufs_of (xs ++ x ∷ []) ≡ bufs_of xs ++ x.hold.buf ∷ []
bufs-push xs x = bufs-append xs (x ∷ [])

pub bufs-take_more : (xs : List Slice) (i : ℕ) (x : Slice) → i < length xs → x ≡ get_or xs i x
    → bufs_of (take (i + 1) xs) ≡ bufs_of (take i xs) ++ x.hold.buf ∷ []
bufs-take_more xs i x h e = ap bufs_of (take_more xs i x h ∙ ap (λ y. take i xs ++ y ∷ []) (sym e))
    ∙ bufs-push (take i xs) x

pub tally-take : (b : BufId) (xs : List Slice) (i : ℕ) → tally b (bufs_of (take i xs)) ≤ tally b (bufs_of xs)
tally-take b xs i =
    omega (
      arith,
      ap (λ ys. tally b (bufs_of ys)) (take-append-drop i xs),
      ap (tally b) (bufs-append (take i xs) (drop i xs)),
      tally-append b (bufs_of (take i xs)) (bufs_of (drop i xs)),
    )

-- the i-th slice counts in addition to those before it
pub tally-at : (xs : List Slice) (i : ℕ) (x : Slice) (b : BufId) → i < length xs → x ≡ get_or xs i x
    → tally b (bufs_of (take i xs)) + same b x.hold.buf ≤ tally b (bufs_of xs)
tally-at xs i x b h e =
    omega (
      arith,
      tally-take b xs (i + 1),
      ap (tally b) (bufs-take_more xs i x h e),
      tally-append b (bufs_of (take i xs)) (x.hold.buf ∷ []),
      tally_one b x.hold.buf,
    )

-- two buffers count as the same at most once
pub same_few : (a b : BufId) → same a b ≤ 1
same_few a b = elim (cases_eq a.page b.page) [
  | inl e ↦ elim (cases_eq a.generation b.generation) [
    | inl g ↦ omega (arith, ap (same a) (sym (equal_bufs a b e g)), same_self a)
    | inr ne ↦ omega (arith, other_generation a b e ne)
  ]
  | inr ne ↦ omega (arith, other_page a b ne)
]

-- the buffers of holds of one pool
pub bufs-held_in : (p : ℕ) (bs : List BufId) → map (λ (h : Buffer). h.buf) (held_in p bs) ≡ bs
bufs-held_in p [] = refl
bufs-held_in p (b ∷ bs) = ap (λ t. b ∷ t) (bufs-held_in p bs)
