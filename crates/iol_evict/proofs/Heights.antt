-- All entries lowered, and sorted by height again.
use Rattle.std.proofs.Common.{◌≡◌, ℕ, ◌+◌, ◌<◌, List, length, get_or, map, take, arith, refl, sym, ap, subst, ◌∙◌}
use Rattle.std.proofs.lemmas.List.{get_or-take, length-take, length-map, get_or-map, ext_get_or}
use Rattle.std.proofs.lemmas.List.Sums.{sum_by-insert, sum_by_more}
use Rattle.slab.specs.Slab.{Slab, ContainsKey}
use Rattle.iol_evict.specs.declared.entry.Entry.{Entry}
use Rattle.iol_evict.specs.declared.entry.By.TheVariants.{Place, Height}
use Rattle.iol_evict.specs.Order.{no_entry, lowered_by}
use Rattle.iol_evict.specs.Ranks.{rank_by}
use Rattle.iol_evict.specs.Indexes.{entry_of, one_if, times, AreLive, IsRising, IsApart, HaveSameKeys, Adds, Lowers}
use Rattle.iol_evict.specs.Indexes.{IsIndexed}
use Rattle.iol_evict.proofs.Times.{StandsIn, stands-same, each-same}
use Rattle.iol_evict.proofs.KeptOrder.{rising-ranks, rising-insert}
use Rattle.iol_evict.proofs.Indexes.{entries_of, read, one_index, places-apart}

first_keys : (keys : List ℕ) (n i : ℕ) → i < length (take n keys) → (i < n) × (i < length keys)
first_keys keys n i within = let e = length-take n keys in (omega (arith, within, e), omega (arith, within, e))

-- the keys inserted so far are live
pub live-first : (s : Slab Entry) (keys by_height : List ℕ) (n : ℕ) → AreLive s keys
    → HaveSameKeys (take n keys) by_height → AreLive s by_height
live-first s keys by_height n live same = record {
  each = each-same (λ k. ContainsKey s k) (take n keys) by_height same
      (λ i within. let both = first_keys keys n i within in
      subst (λ (k : ℕ). ContainsKey s k) (sym (get_or-take n keys i 0 both.0)) (live.each i both.1));
}

pub apart-first : (s : Slab Entry) (keys by_height : List ℕ) (n : ℕ) → IsRising Place s keys → n < length keys
    → HaveSameKeys (take n keys) by_height → IsApart s by_height (get_or keys n 0)
apart-first s keys by_height n rising in_it same = record {
  each = λ i within.
      let stood = stands-same (take n keys) by_height i same within in
      let both = first_keys keys n stood.index stood.within in
      let is : get_or keys stood.index 0 ≡ get_or by_height i 0 = sym (get_or-take n keys stood.index 0 both.0)
      ∙ stood.is in
      let there : StandsIn keys (get_or by_height i 0) = record { index = stood.index; within = both.1; is = is } in
      let next : StandsIn keys (get_or keys n 0) = record { index = n; within = in_it; is = refl } in
      places-apart s keys (get_or by_height i 0) (get_or keys n 0) rising there next
      (λ e. other stood.index both.0 both.1 (is ∙ e));
}
  where
    other : (u : ℕ) → u < n → u < length keys → get_or keys u 0 ≡ get_or keys n 0 → ⊥
    other u below within e = let one =
        one_index Place s keys u n rising within in_it (ap (λ (k : ℕ). rank_by Place (entry_of s k)) e) in
        omega (arith, one, below)

pub rising-next : (s : Slab Entry) (keys old new : List ℕ) (n : ℕ) → IsRising Place s keys → n < length keys
    → HaveSameKeys (take n keys) old → IsRising Height s old → Adds Height s (get_or keys n 0) old new
    → IsRising Height s new
rising-next s keys old new n places in_it same rising adds =
    subst (λ (l : List ℕ). IsRising Height s l) (sym adds.keys)
    (rising-insert Height s old (get_or keys n 0) adds.index rising adds.place
    (apart-first s keys old n places in_it same))

pub same-next : (s : Slab Entry) (keys old new : List ℕ) (n : ℕ) → n < length keys → HaveSameKeys (take n keys) old
    → Adds Height s (get_or keys n 0) old new → HaveSameKeys (take (n + 1) keys) new
same-next s keys old new n in_it same adds = record {
  each = λ k.
      sum_by_more (one_if k) keys n 0 in_it ∙ ap (λ (t : ℕ). t + one_if k (get_or keys n 0)) (same.each k)
      ∙ sym (sum_by-insert (one_if k) old adds.index (get_or keys n 0)) ∙ ap (times k) (sym adds.keys);
}

-- lowering all entries keeps the order of file and place
pub rising-lowered : (s t : Slab Entry) (keys : List ℕ) (low : ℕ) → IsRising Place s keys
    → Lowers low keys (length keys) s t → IsRising Place t keys
rising-lowered s t keys low rising lowers =
    rising-ranks Place s t keys (λ i within. ap (rank_by Place) (lowers.done i within within)) rising

pub indexed-lowered : (s t : Slab Entry) (keys old by_height : List ℕ) (low : ℕ) → IsIndexed s keys old
    → Lowers low keys (length keys) s t → IsRising Height t by_height → HaveSameKeys keys by_height
    → IsIndexed t keys by_height
indexed-lowered s t keys old by_height low indexed lowers heights same = record {
  live = lowers.live;
  places = rising-lowered s t keys low indexed.places lowers;
  heights = heights;
  same = same;
  sized = λ i within. subst (λ (e : Entry). 0 < e.size) (sym (lowers.done i within within)) (indexed.sized i within);
}

pub entries-lowered : (s t : Slab Entry) (keys : List ℕ) (low : ℕ) → Lowers low keys (length keys) s t
    → entries_of t keys ≡ map (lowered_by low) (entries_of s keys)
entries-lowered s t keys low lowers = ext_get_or no_entry (entries_of t keys) (map (lowered_by low) (entries_of s keys))
    (length-map keys (entry_of t) ∙ sym (length-map keys (entry_of s))
    ∙ sym (length-map (entries_of s keys) (lowered_by low)))
    (λ i upto.
    let within : i < length keys = subst (λ (n : ℕ). i < n) (length-map keys (entry_of t)) upto in
    let short = subst (λ (n : ℕ). i < n) (sym (length-map keys (entry_of s))) within in
    read t keys i within ∙ lowers.done i within within ∙ ap (lowered_by low) (sym (read s keys i within))
    ∙ sym (get_or-map (lowered_by low) (entries_of s keys) i no_entry no_entry short))
