-- After the lowest free pages are claimed, the others are still free.
use Rattle.std.proofs.Common.{◌≡◌, false, ℕ, suc, ◌+◌, ◌*◌, ◌<◌, ◌≤◌, List, [], ◌∷◌, ◌++◌, take, drop, flat_map, sym}
use Rattle.std.proofs.Common.{ap, ◌∙◌, arith, subst, nat_lt, ◌&&◌, ◌/◌}
use Rattle.std.specs.List.{All, Contains, filter}
use Rattle.iol_arena.specs.State.{State, entry_at, entry_in, is_free, kind_free}
use Rattle.iol_arena.specs.Chunks.{IsRisingFrom, IsRising, chunk_pages, usable, free_pages, AreChunks}
use Rattle.iol_arena.specs.Parts.{AreAll, part_pages}
use Rattle.iol_arena.specs.declared.pages.PageKind.TheVariants.{Pending}
use Rattle.iol_arena.specs.declared.pages.Entry.{Entry}
use Rattle.iol_arena.specs.declared.pages.Part.{Part}
use Rattle.iol_arena.specs.Pages.{IsSameBut}
use Rattle.iol_arena.proofs.Members.{In, in_contains, drop_filter, rising_range, rising_from, contains_in, chunk_in}
use Rattle.iol_arena.proofs.Members.{in_filter, in_take}
use Rattle.iol_arena.proofs.MarkedParts.{page_all}

claimed_in : (s : State) (ps : List Part) (q : ℕ) → AreAll Pending s.limit s.entries ps → In (part_pages ps) q
    → usable s q ≡ false
claimed_in s ps q all h =
    ap (λ x. kind_free x && nat_lt (entry_at s q).generation s.limit) (page_all Pending s.limit s.entries ps q all h).0

rising_pages : (low : ℕ) (cs : List ℕ) → IsRisingFrom low cs → IsRisingFrom (low * 16) (flat_map chunk_pages cs)
unfolding chunk_pages
rising_pages low [] h = tt
rising_pages low (c ∷ cs) h =
    let rest =
    rising_from (c * 16 + 16) ((c + 1) * 16) (flat_map chunk_pages cs) (omega arith)
    (rising_pages (c + 1) cs h.1) in
    rising_from (low * 16) (c * 16) (chunk_pages c ++ flat_map chunk_pages cs) (omega (arith, h.0))
    (rising_range (c * 16) 16 (flat_map chunk_pages cs) rest)

pub free-claimed : (s t : State) (ps : List Part) (cs : List ℕ) (k : ℕ) → IsRising cs
    → AreAll Pending t.limit t.entries ps → IsSameBut (part_pages ps) s t → t.limit ≡ s.limit
    → part_pages ps ≡ take k (free_pages s cs) → free_pages t cs ≡ drop k (free_pages s cs)
free-claimed s t ps cs k rising all others limit pages =
    drop_filter (usable s) (usable t) 0 (flat_map chunk_pages cs) k (rising_pages 0 cs rising)
    (λ q lo h. claimed_in t ps q all (subst (λ l. In l q) (sym pages) h))
    (λ q lo out. (let e = others.each q (λ h. out (subst (λ l. In l q) pages (in_contains (part_pages ps) q h))) in
    ap (λ x. is_free t.limit x) e ∙ ap (λ l. is_free l (entry_at s q)) limit))

-- the chunks of a set, in an arena of n chunks
pub chunks_within : (low n pages : ℕ) (cs : List ℕ) → pages ≡ 16 * n → IsRisingFrom low cs → All (λ c. c < n) cs
    → AreChunks low pages cs
chunks_within low n pages [] e rising all = tt
chunks_within low n pages (c ∷ cs) e rising all = (
  rising.0,
  omega (arith, all 0 0 (omega arith)),
  chunks_within (c + 1) n pages cs e rising.1 (λ k d h. all (suc k) d (omega arith)),
)

-- a chunk above all others is added to a set
pub rising_push : (low : ℕ) (cs : List ℕ) (c : ℕ) → IsRisingFrom low cs → low ≤ c → All (λ x. x < c) cs
    → IsRisingFrom low (cs ++ c ∷ [])
rising_push low [] c h le all = (le, tt)
rising_push low (x ∷ xs) c h le all = (
  h.0,
  rising_push (x + 1) xs c h.1 (omega (arith, all 0 0 (omega arith)))
      (λ k d below. all (suc k) d (omega arith)),
)

-- the free pages depend only on the entries and the last generation
pub free-entries : (s t : State) (cs : List ℕ) → t.entries ≡ s.entries → t.limit ≡ s.limit
    → free_pages t cs ≡ free_pages s cs
free-entries s t cs e l =
    ap (λ (es : List Entry). filter (λ q. is_free t.limit (entry_in es q)) (flat_map chunk_pages cs)) e
    ∙ ap (λ n. filter (λ q. is_free n (entry_at s q)) (flat_map chunk_pages cs)) l

-- the pages that were found free are in the chunks
pub found_inside : (s : State) (cs : List ℕ) (ps : List Part) (k q : ℕ) → part_pages ps ≡ take k (free_pages s cs)
    → In (part_pages ps) q → Contains cs (q / 16)
found_inside s cs ps k q pages h =
    contains_in cs (q / 16)
    (chunk_in cs q
    (in_filter (usable s) (flat_map chunk_pages cs) q
    (in_take k (free_pages s cs) q (subst (λ l. In l q) pages h))))
