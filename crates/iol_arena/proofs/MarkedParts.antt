-- Parts marked one after another: the kind of each page so far.
use Rattle.std.proofs.Common.{◌≡◌, true, ℕ, zero, suc, ◌+◌, ◌<◌, ◌≤◌, inl, inr, List, [], ◌∷◌, ◌++◌, length, get_or}
use Rattle.std.proofs.Common.{take, sym, ap, ◌∙◌, arith, subst}
use Rattle.std.specs.Prelude.{◌&&◌, nat_lt}
use Rattle.std.specs.List.{range_with_len}
use Rattle.std.proofs.lemmas.List.{append-nil, take_more}
use Rattle.std.proofs.lemmas.Grind.{flat_map-append}
use Rattle.std.proofs.lemmas.Bool.{lt-ltb}
use Rattle.iol_arena.specs.State.{State, entry_in, entry_at, is_free, kind_free, marked, with_marked}
use Rattle.iol_arena.specs.Buffers.{IsUnraised}
use Rattle.iol_arena.specs.Pages.{IsSameBut, AreUsable}
use Rattle.iol_arena.specs.Parts.{IsAll, AreAll, AreApart, no_part, part_pages}
use Rattle.iol_arena.specs.declared.pages.PageKind as kind
use Rattle.iol_arena.specs.declared.pages.PageKind.TheVariants.{Free}
use Rattle.iol_arena.specs.declared.pages.Entry.{Entry}
use Rattle.iol_arena.specs.declared.pages.Part.{Part}
use Rattle.iol_arena.proofs.Each.{order, each_before, each_after, each_there}
use Rattle.iol_arena.proofs.Members.{In, in_left, in_right, in_either, in_or_out, in_range, range_in, contains_in}
use Rattle.iol_arena.proofs.Members.{in_contains}
use Rattle.iol_arena.proofs.Steps.{all_at, first_at}

-- The parts so far, and one more.

pub pages-more : (ps : List Part) (i : ℕ) → i < length ps → part_pages (take (i + 1) ps) ≡ part_pages (take i ps)
    ++ range_with_len (get_or ps i no_part).first (get_or ps i no_part).count
pages-more ps i h =
    let p = get_or ps i no_part in
    ap part_pages (take_more ps i no_part h)
    ∙ flat_map-append (λ (r : Part). range_with_len r.first r.count) (take i ps) (p ∷ [])
    ∙ ap (λ l. part_pages (take i ps) ++ l) (append-nil (range_with_len p.first p.count))

-- the pages of earlier parts are before a part
pub before_part : (low : ℕ) (ps : List Part) (i q : ℕ) → AreApart low ps → i < length ps → In (part_pages (take i ps)) q
    → q < (get_or ps i no_part).first
before_part low [] i q apart h there = absurd (omega arith)
before_part low (p ∷ ps) zero q apart h there = elim there [ ]
before_part low (p ∷ ps) (suc i) q apart h there =
    elim (in_either (range_with_len p.first p.count) (part_pages (take i ps)) q there) [
      | inl k ↦
          (let r = range_in p.first p.count q k in
          omega (arith, r.1, first_at (p.first + p.count) ps i apart.1 (omega arith)))
      | inr k ↦ before_part (p.first + p.count) ps i q apart.1 (omega arith) k
    ]

-- a part whose pages did not change is still of its kind
pub all_same : (k : kind.PageKind) (s t : State) (p : Part) → t.limit ≡ s.limit → length t.entries ≡ length s.entries
    → ((q : ℕ) → p.first ≤ q → entry_at t q ≡ entry_at s q) → IsAll k s.limit s.entries p → IsAll k t.limit t.entries p
all_same k s t p limit long same all = record {
  within = omega (arith, all.within, long);
  chunk = all.chunk;
  each = λ q lo hi. ap (λ e. e.kind) (same q lo) ∙ all.each q lo hi;
  below = λ q lo hi. omega (arith, ap (λ e. e.generation) (same q lo), all.below q lo hi, limit);
}

-- each page of the parts is of their kind, and below the last generation
pub page_all : (k : kind.PageKind) (limit : ℕ) (es : List Entry) (ps : List Part) (q : ℕ) → AreAll k limit es ps
    → In (part_pages ps) q → ((entry_in es q).kind ≡ k) × ((entry_in es q).generation < limit)
page_all k limit es [] q all h = elim h [ ]
page_all k limit es (p ∷ ps) q all h = elim (in_either (range_with_len p.first p.count) (part_pages ps) q h) [
  | inl a ↦ (let r = range_in p.first p.count q a in (all.0.each q r.0 r.1, all.0.below q r.0 r.1))
  | inr a ↦ page_all k limit es ps q all.1 a
]

-- each page of the list got this kind, unraised, and no other page changed
pub record AreMarked (k : kind.PageKind) (pages : List ℕ) (old new : State) : Type 0 where
  pub there : (q : ℕ) → In pages q → entry_at new q ≡ marked k 0 (entry_at old q)
  pub others : (q : ℕ) → (In pages q → ⊥) → entry_at new q ≡ entry_at old q

module _ (k0 k : kind.PageKind) (s t : State) (ps : List Part) (i : ℕ) (apart : AreApart 0 ps)
    (all : AreAll k0 s.limit s.entries ps) (h : i < length ps)
    (limit : t.limit ≡ s.limit) (long : length t.entries ≡ length s.entries)
    (m : AreMarked k (part_pages (take i ps)) s t) where
  abbrev p : Part
  p = get_or ps i no_part

  after : (q : ℕ) → p.first ≤ q → entry_at t q ≡ entry_at s q
  after q lo = m.others q (λ a. (let r = before_part 0 ps i q apart h a in omega (arith, r, lo)))

  pub still_all : IsAll k0 t.limit t.entries (get_or ps i no_part)
  still_all = all_same k0 s t p limit long after (all_at k0 s.limit s.entries ps i all h)

  pub marked_more : (u : State) → u ≡ with_marked t (get_or ps i no_part).first (get_or ps i no_part).count k 0
      → AreMarked k (part_pages (take (i + 1) ps)) s u
  marked_more u is =
      let f = marked k 0 in
      let so_far = part_pages (take i ps) in
      let run = range_with_len p.first p.count in
      let more = pages-more ps i h in
      record {
        there = λ q a. ap (λ x. entry_at x q) is ∙ elim (in_either so_far run q (subst (λ l. In l q) more a)) [
          | inl b ↦ each_before f p.first p.count q t.entries (before_part 0 ps i q apart h b) ∙ m.there q b
          | inr b ↦
              (let r = range_in p.first p.count q b in
              each_there f p.first p.count q t.entries r.0 r.1 (omega (arith, still_all.within, r.1))
              ∙ ap f (after q r.0))
        ];
        others = λ q out. ap (λ x. entry_at x q) is ∙ elim (order p.first p.count q) [
          | inl b ↦ each_before f p.first p.count q t.entries b
          | inr r ↦ elim r [
            | inl b ↦
                absurd
                (out (subst (λ l. In l q) (sym more) (in_right so_far run q (in_range p.first p.count q b.0 b.1))))
            | inr b ↦ each_after f p.first p.count q t.entries b
          ]
        ] ∙ m.others q (λ a. out (subst (λ l. In l q) (sym more) (in_left so_far run q a)));
      }

-- All parts marked.

module _ (k : kind.PageKind) (s t : State) (ps : List Part) (m : AreMarked k (part_pages ps) s t) where
  pub others-marked : IsSameBut (part_pages ps) s t
  others-marked = record { each = λ q out. m.others q (λ a. out (contains_in (part_pages ps) q a)) }

  pub unraised-marked : IsUnraised s t
  unraised-marked q = elim (in_or_out (part_pages ps) q) [
    | inl a ↦ (let e = ap (λ (x : Entry). x.generation) (m.there q a) in omega (arith, e))
    | inr out ↦ ap (λ (x : Entry). x.generation) (m.others q out)
  ]

pub all_marked : (k0 k : kind.PageKind) (s t : State) (pages : List ℕ) (ps : List Part) → AreMarked k pages s t
    → ((q : ℕ) → In (part_pages ps) q → In pages q) → t.limit ≡ s.limit → length t.entries ≡ length s.entries
    → AreAll k0 s.limit s.entries ps → AreAll k t.limit t.entries ps
all_marked k0 k s t pages [] m among limit long all = tt
all_marked k0 k s t pages (p ∷ ps) m among limit long all =
    let run = range_with_len p.first p.count in
    let now : (q : ℕ) → p.first ≤ q → q < p.first + p.count → entry_at t q ≡ marked k 0 (entry_at s q) =
    λ q lo hi. m.there q (among q (in_left run (part_pages ps) q (in_range p.first p.count q lo hi))) in (
      record {
        within = omega (arith, all.0.within, long);
        chunk = all.0.chunk;
        each = λ q lo hi. ap (λ e. e.kind) (now q lo hi);
        below = λ q lo hi. omega (arith, ap (λ (e : Entry). e.generation) (now q lo hi), all.0.below q lo hi, limit);
      },
      all_marked k0 k s t pages ps m (λ q h. among q (in_right run (part_pages ps) q h)) limit long all.1,
    )

-- a page below the last generation may be used once it is marked as free
pub usable_left : (limit : ℕ) (e : Entry) → e.generation < limit → is_free limit (marked Free 0 e) ≡ true
usable_left limit e h = lt-ltb (e.generation + 0) limit (omega (arith, h))

-- the pages of free parts may be used
pub usable_all : (s : State) (ps : List Part) → AreAll Free s.limit s.entries ps → AreUsable s (part_pages ps)
usable_all s ps all = record {
  each = λ q h.
      let a = page_all Free s.limit s.entries ps q all (in_contains (part_pages ps) q h) in
      ap (λ k. kind_free k && nat_lt (entry_at s q).generation s.limit) a.0
      ∙ lt-ltb (entry_at s q).generation s.limit a.1;
}
