-- Entries and their indexes after a change.
use Rattle.std.proofs.Common.{inl, inr, ◌≡◌, ◌≢◌, ℕ, ◌<◌, true, false, List, length, get_or, arith, refl, sym, ap}
use Rattle.std.proofs.Common.{subst, ◌∙◌, Option, Some, None, IsSome, unwrap_or}
use Rattle.std.specs.List.{insert, remove}
use Rattle.std.proofs.lemmas.Bool.{cases_eq, false≢true}
use Rattle.std.proofs.lemmas.List.{length-map}
use Rattle.std.proofs.lemmas.List.Sums.{sum_by-insert, sum_by-remove}
use Rattle.slab.specs.Slab.{Slab, get, ContainsKey, Updates, SameValues}
use Rattle.iol_evict.specs.declared.entry.Entry.{Entry}
use Rattle.iol_evict.specs.declared.entry.Rank.{Rank}
use Rattle.iol_evict.specs.declared.entry.By.TheVariants.{Place, Height}
use Rattle.iol_evict.specs.Order.{Table, no_entry, is_at, entry_at, with_height}
use Rattle.iol_evict.specs.Ranks.{rank_by}
use Rattle.iol_evict.specs.Indexes.{entry_of, one_if, times, AreLive, IsIndex, IsRising, HasRank, HaveSameKeys, Finds}
use Rattle.iol_evict.specs.Indexes.{Adds, Takes, IsIndexed}
use Rattle.iol_evict.proofs.Edits.{each-insert, each-remove, remove-cases}
use Rattle.iol_evict.proofs.Times.{StandsIn, stands-same, same-sym, same-insert, same-remove, each-same}
use Rattle.iol_evict.proofs.KeptOrder.{SameAt, same-entry, same-others, live-same, live-other, rising-ranks}
use Rattle.iol_evict.proofs.KeptOrder.{rising-same, rising-insert, rising-remove}
use Rattle.iol_evict.proofs.EntryList.{is_at-true, entry_at-none}
use Rattle.iol_evict.proofs.Indexes.{rank_of_place, entries-with_height, entries_of, read, taken-key, taken-gone}
use Rattle.iol_evict.proofs.Indexes.{has-rank, places-apart}

-- the keys of the second index are live, too
live-heights : (s : Slab Entry) (ks js : List ℕ) → IsIndexed s ks js → AreLive s js
live-heights s ks js indexed = record { each = each-same (λ k. ContainsKey s k) ks js indexed.same indexed.live.each }

-- each index by itself
pub index-places : (s : Slab Entry) (ks js : List ℕ) → IsIndexed s ks js → IsIndex Place s ks
index-places s ks js indexed = record { live = indexed.live; rising = indexed.places }

pub index-heights : (s : Slab Entry) (ks js : List ℕ) → IsIndexed s ks js → IsIndex Height s js
index-heights s ks js indexed = record { live = live-heights s ks js indexed; rising = indexed.heights }

-- the slabs have the same values
pub indexed-same : (s t : Slab Entry) (ks js : List ℕ) → SameValues s t → IsIndexed s ks js → IsIndexed t ks js
indexed-same s t ks js same indexed =
    let at_places : SameAt s t ks = record { each = λ i within. same (get_or ks i 0) } in
    let at_heights : SameAt s t js = record { each = λ i within. same (get_or js i 0) } in
    record {
      live = live-same s t ks at_places indexed.live;
      places = rising-same Place s t ks at_places indexed.places;
      heights = rising-same Height s t js at_heights indexed.heights;
      same = indexed.same;
      sized = λ i within. subst (λ (e : Entry). 0 < e.size) (sym (same-entry s t ks i at_places within))
          (indexed.sized i within);
    }

-- a free key gets a value
pub fresh-places : (s t : Slab Entry) (ks js : List ℕ) (key : ℕ) (slot : Option Entry) → IsIndexed s ks js
    → get s key ≡ None → Updates s t key slot → SameAt s t ks
fresh-places s t ks js key slot indexed free updates =
    same-others s t ks key slot updates (live-other s ks key indexed.live free)

pub fresh-heights : (s t : Slab Entry) (ks js : List ℕ) (key : ℕ) (slot : Option Entry) → IsIndexed s ks js
    → get s key ≡ None → Updates s t key slot → SameAt s t js
fresh-heights s t ks js key slot indexed free updates =
    same-others s t js key slot updates (live-other s js key (live-heights s ks js indexed) free)

entry-now : (t : Slab Entry) (key : ℕ) (e : Entry) → get t key ≡ Some e → entry_of t key ≡ e
entry-now t key e is = ap (λ (o : Option Entry). unwrap_or o no_entry) is

contains-now : (t : Slab Entry) (key : ℕ) (e : Entry) → get t key ≡ Some e → ContainsKey t key
contains-now t key e is = subst (λ (o : Option Entry). IsSome o) (sym is) (some e)
  where
    some : (e : Entry) → IsSome (Some e)
    some e = refl

-- an entry is inserted
pub indexed-insert : (s t : Slab Entry) (ks ks' js js' : List ℕ) (key : ℕ) (e : Entry) → IsIndexed s ks js
    → get s key ≡ None → Updates s t key (Some e) → 0 < e.size → entry_at (entries_of s ks) e.file e.at ≡ None
    → Adds Place t key ks ks' → Adds Height t key js js' → IsIndexed t ks' js'
indexed-insert s t ks ks' js js' key e indexed free updates sized absent placed heightened =
    let at_places = fresh-places s t ks js key (Some e) indexed free updates in
    let at_heights = fresh-heights s t ks js key (Some e) indexed free updates in
    let now = entry-now t key e updates.changed in
    let apart : ((i : ℕ) → i < length ks → (entry_of t (get_or ks i 0)).file ≡ (entry_of t key).file
    → (entry_of t (get_or ks i 0)).at ≡ (entry_of t key).at → ⊥) =
    λ i within. elsewhere i within (same-entry s t ks i at_places within) now in
    record {
      live =
          record {
            each =
                subst (λ (l : List ℕ). (i : ℕ) → i < length l → ContainsKey t (get_or l i 0)) (sym placed.keys)
                (each-insert (λ k. ContainsKey t k) ks placed.index key (live-same s t ks at_places indexed.live).each
                (contains-now t key e updates.changed) placed.place.within);
          };
      places =
          subst (λ (l : List ℕ). IsRising Place t l) (sym placed.keys)
          (rising-insert Place t ks key placed.index (rising-same Place s t ks at_places indexed.places) placed.place
          (record { each = apart }));
      heights =
          subst (λ (l : List ℕ). IsRising Height t l) (sym heightened.keys)
          (rising-insert Height t js key heightened.index (rising-same Height s t js at_heights indexed.heights)
          heightened.place
          (record {
            each =
                each-same (λ k. (entry_of t k).file ≡ (entry_of t key).file → (entry_of t k).at ≡ (entry_of t key).at
                → ⊥) ks js indexed.same apart;
          }));
      same =
          subst (λ (l : List ℕ). HaveSameKeys l js') (sym placed.keys)
          (subst (λ (l : List ℕ). HaveSameKeys (insert ks placed.index key) l) (sym heightened.keys)
          (same-insert ks js placed.index heightened.index key indexed.same));
      sized = subst (λ (l : List ℕ). (i : ℕ) → i < length l → 0 < (entry_of t (get_or l i 0)).size) (sym placed.keys)
          (each-insert (λ k. 0 < (entry_of t k).size) ks placed.index key
          (λ i within. subst (λ (x : Entry). 0 < x.size) (sym (same-entry s t ks i at_places within))
          (indexed.sized i within)) (subst (λ (x : Entry). 0 < x.size) (sym now) sized) placed.place.within);
    }
  where
    elsewhere : (i : ℕ) → i < length ks → entry_of t (get_or ks i 0) ≡ entry_of s (get_or ks i 0) → entry_of t key ≡ e
        → (entry_of t (get_or ks i 0)).file ≡ (entry_of t key).file
        → (entry_of t (get_or ks i 0)).at ≡ (entry_of t key).at → ⊥
    elsewhere i within same now f a =
        let short = subst (λ (n : ℕ). i < n) (sym (length-map ks (entry_of s))) within in
        let away =
        subst (λ (x : Entry). is_at x e.file e.at ≡ false) (read s ks i within ∙ sym same)
        (entry_at-none (entries_of s ks) i e.file e.at absent short) in
        let here = is_at-true (entry_of t (get_or ks i 0)) e.file e.at (f ∙ ap (λ (x : Entry). x.file) now) (a
        ∙ ap (λ (x : Entry). x.at) now) in
        let never : true ≡ false = sym here ∙ away in
        cc

-- an entry is removed
pub indexed-remove : (s t : Slab Entry) (ks ks' js js' : List ℕ) (rank : Rank) (key taken : ℕ) → IsIndexed s ks js
    → Takes Place s rank key ks ks' → Takes Height s (rank_by Height (entry_of s key)) taken js js'
    → Updates s t key None → IsIndexed t ks' js'
indexed-remove s t ks ks' js js' rank key taken indexed from_places from_heights updates =
    let in_places : StandsIn ks key =
    record { index = from_places.index; within = from_places.within; is = from_places.is } in
    let stood = stands-same js ks from_places.index (same-sym ks js indexed.same) from_places.within in
    let in_heights : StandsIn js key =
    record { index = stood.index; within = stood.within; is = stood.is ∙ from_places.is } in
    let one = taken-key Height s js js' key taken indexed.heights in_heights from_heights in
    let at_places =
    same-others s t ks' key None updates (taken-gone Place s ks ks' rank key indexed.places from_places) in
    let at_heights =
    same-others s t js' key None updates
    (λ i within is. taken-gone Height s js js' (rank_by Height (entry_of s key)) taken indexed.heights from_heights
    i within (is ∙ sym one)) in
    let live : AreLive s ks' =
    record {
      each =
          subst (λ (l : List ℕ). (i : ℕ) → i < length l → ContainsKey s (get_or l i 0)) (sym from_places.keys)
          (each-remove (λ k. ContainsKey s k) ks from_places.index indexed.live.each from_places.within);
    } in
    let sized =
    subst (λ (l : List ℕ). (i : ℕ) → i < length l → 0 < (entry_of s (get_or l i 0)).size) (sym from_places.keys)
    (each-remove (λ k. 0 < (entry_of s k).size) ks from_places.index indexed.sized from_places.within) in
    record {
      live = live-same s t ks' at_places live;
      places =
          rising-same Place s t ks' at_places
          (subst (λ (l : List ℕ). IsRising Place s l) (sym from_places.keys)
          (rising-remove Place s ks from_places.index indexed.places from_places.within));
      heights =
          rising-same Height s t js' at_heights (subst (λ (l : List ℕ). IsRising Height s l) (sym from_heights.keys)
          (rising-remove Height s js from_heights.index indexed.heights from_heights.within));
      same =
          subst (λ (l : List ℕ). HaveSameKeys l js') (sym from_places.keys)
          (subst (λ (l : List ℕ). HaveSameKeys (remove ks from_places.index) l) (sym from_heights.keys)
          (same-remove ks js from_places.index from_heights.index indexed.same from_places.within from_heights.within
          (from_places.is ∙ sym one ∙ sym from_heights.is)));
      sized = λ i within. subst (λ (x : Entry). 0 < x.size) (sym (same-entry s t ks' i at_places within))
          (sized i within);
    }

-- a key is removed and inserted again
same-again : (ks js js' js'' : List ℕ) (n m key : ℕ) → HaveSameKeys ks js → n < length js → get_or js n 0 ≡ key
    → js' ≡ remove js n → js'' ≡ insert js' m key → HaveSameKeys ks js''
same-again ks js js' js'' n m key same within is removed inserted = record {
  each = λ k.
      let all = same.each k in
      let out = sum_by-remove (one_if k) js n 0 within in
      let one : one_if k (get_or js n 0) ≡ one_if k key = ap (one_if k) is in
      let back = ap (times k) inserted ∙ sum_by-insert (one_if k) js' m key in
      let less = ap (times k) removed in
      omega (arith, all, out, one, back, less);
}

-- the height of an entry is set
pub indexed-height : (s t : Slab Entry) (ks js js' js'' : List ℕ) (rank : Rank) (key taken height : ℕ)
    → IsIndexed s ks js → Finds Place s ks rank key → Takes Height s (rank_by Height (entry_of s key)) taken js js'
    → Updates s t key (Some (record (entry_of s key) { height = height })) → Adds Height t key js' js''
    → IsIndexed t ks js''
indexed-height s t ks js js' js'' rank key taken height indexed found from_heights updates heightened =
    let in_places : StandsIn ks key = record { index = found.index; within = found.within; is = found.is } in
    let stood = stands-same js ks found.index (same-sym ks js indexed.same) found.within in
    let in_heights : StandsIn js key =
    record { index = stood.index; within = stood.within; is = stood.is ∙ found.is } in
    let one = taken-key Height s js js' key taken indexed.heights in_heights from_heights in
    let gone : ((i : ℕ) → i < length js' → get_or js' i 0 ≢ key) =
    λ i within is. taken-gone Height s js js' (rank_by Height (entry_of s key)) taken indexed.heights from_heights i
    within (is ∙ sym one) in
    let at_heights = same-others s t js' key (Some (record (entry_of s key) { height = height })) updates gone in
    let now = entry-now t key (record (entry_of s key) { height = height }) updates.changed in
    record {
      live = record {
        each = λ i within. elim (cases_eq (get_or ks i 0) key) [
          | inl is ↦
              subst (λ (k : ℕ). ContainsKey t k) (sym is)
              (contains-now t key (record (entry_of s key) { height = height }) updates.changed)
          | inr other ↦ subst (λ (o : Option Entry). IsSome o) (sym (updates.others (get_or ks i 0) other))
              (indexed.live.each i within)
        ];
      };
      places = rising-ranks Place s t ks (λ i within. elim (cases_eq (get_or ks i 0) key) [
        | inl is ↦ ap (λ (k : ℕ). rank_by Place (entry_of t k)) is ∙ ap (rank_by Place) now
            ∙ ap (λ (k : ℕ). rank_by Place (entry_of s k)) (sym is)
        | inr other ↦
            ap (λ (o : Option Entry). rank_by Place (unwrap_or o no_entry)) (updates.others (get_or ks i 0) other)
      ]) indexed.places;
      heights =
          subst (λ (l : List ℕ). IsRising Height t l) (sym heightened.keys)
          (rising-insert Height t js' key heightened.index
          (rising-same Height s t js' at_heights (subst (λ (l : List ℕ). IsRising Height s l) (sym from_heights.keys)
          (rising-remove Height s js from_heights.index indexed.heights from_heights.within)))
          heightened.place
          (record {
            each =
                λ i within. apart i within in_places (gone i within) (same-entry s t js' i at_heights within) now;
          }));
      same = same-again ks js js' js'' from_heights.index heightened.index key indexed.same from_heights.within
          (from_heights.is ∙ one) from_heights.keys heightened.keys;
      sized = λ i within. elim (cases_eq (get_or ks i 0) key) [
        | inl is ↦
            subst (λ (k : ℕ). 0 < (entry_of t k).size) (sym is)
            (subst (λ (x : Entry). 0 < x.size) (sym now)
            (subst (λ (k : ℕ). 0 < (entry_of s k).size) is (indexed.sized i within)))
        | inr other ↦
            subst (λ (o : Option Entry). 0 < (unwrap_or o no_entry).size) (sym (updates.others (get_or ks i 0) other))
            (indexed.sized i within)
      ];
    }
  where
    apart : (i : ℕ) → i < length js' → StandsIn ks key → get_or js' i 0 ≢ key
        → entry_of t (get_or js' i 0) ≡ entry_of s (get_or js' i 0)
        → entry_of t key ≡ record (entry_of s key) { height = height }
        → (entry_of t (get_or js' i 0)).file ≡ (entry_of t key).file
        → (entry_of t (get_or js' i 0)).at ≡ (entry_of t key).at → ⊥
    apart i within in_places other same now f a =
        let upto : i < length (remove js from_heights.index) =
        subst (λ (l : List ℕ). i < length l) from_heights.keys within in
        let stood = remove-cases js from_heights.index i from_heights.within upto in
        let was : get_or js' i 0 ≡ get_or js stood.from 0 = ap (λ (l : List ℕ). get_or l i 0) from_heights.keys
        ∙ stood.is in
        let there = stands-same ks js stood.from indexed.same stood.within in
        let in_ks : StandsIn ks (get_or js' i 0) =
        record { index = there.index; within = there.within; is = there.is ∙ sym was } in
        places-apart s ks (get_or js' i 0) key indexed.places in_ks in_places other
        (sym (ap (λ (x : Entry). x.file) same) ∙ f ∙ ap (λ (x : Entry). x.file) now)
        (sym (ap (λ (x : Entry). x.at) same) ∙ a ∙ ap (λ (x : Entry). x.at) now)

-- equal tables, part by part
pub table-is : (es es' : List Entry) (n m : ℕ) → es ≡ es' → n ≡ m
    → ◌≡◌ {A = Table} (record { entries = es; room = n }) (record { entries = es'; room = m })
table-is es es' n m same rooms = ap (λ (x : List Entry). record { entries = x; room = n }) same
    ∙ ap (λ (x : ℕ). record { entries = es'; room = x }) rooms

-- setting the height that an entry already has changes nothing
some-kept : (o : Option Entry) (height : ℕ) → IsSome o → (unwrap_or o no_entry).height ≡ height
    → o ≡ Some (record (unwrap_or o no_entry) { height = height })
some-kept None height is same = absurd (false≢true is)
some-kept (Some e) height is same = ap (λ (h : ℕ). Some (record e { height = h })) same

pub same-height : (s : Slab Entry) (ks js : List ℕ) (file at height key : ℕ) → IsIndexed s ks js
    → Finds Place s ks (rank_of_place file at) key → (entry_of s key).height ≡ height
    → entries_of s ks ≡ with_height (entries_of s ks) file at height
same-height s ks js file at height key indexed found same =
    let there : ContainsKey s key =
    subst (λ (k : ℕ). ContainsKey s k) found.is (indexed.live.each found.index found.within) in
    entries-with_height s s ks file at height key indexed.places found
    (record { changed = some-kept (get s key) height there same; others = λ other apart. refl })

-- a key of the first index is in the second
stands-height : (s : Slab Entry) (ks js : List ℕ) (n key : ℕ) → IsIndexed s ks js → n < length ks → get_or ks n 0 ≡ key
    → StandsIn js key
stands-height s ks js n key indexed within is =
    let stood = stands-same js ks n (same-sym ks js indexed.same) within in
    record { index = stood.index; within = stood.within; is = stood.is ∙ is }

pub stands-found : (s : Slab Entry) (ks js : List ℕ) (rank : Rank) (key : ℕ) → IsIndexed s ks js
    → Finds Place s ks rank key → HasRank Height s js (rank_by Height (entry_of s key))
stands-found s ks js rank key indexed found =
    has-rank Height s js key (stands-height s ks js found.index key indexed found.within found.is)

pub stands-taken : (s : Slab Entry) (ks ks' js : List ℕ) (rank : Rank) (key : ℕ) → IsIndexed s ks js
    → Takes Place s rank key ks ks' → HasRank Height s js (rank_by Height (entry_of s key))
stands-taken s ks ks' js rank key indexed takes =
    has-rank Height s js key (stands-height s ks js takes.index key indexed takes.within takes.is)

pub finds-taken : (s : Slab Entry) (ks ks' : List ℕ) (rank : Rank) (key : ℕ) → Takes Place s rank key ks ks'
    → Finds Place s ks rank key
finds-taken s ks ks' rank key takes =
    record { index = takes.index; within = takes.within; is = takes.is; has = takes.has }

-- setting the slot of a key changes no entry of the second index, once the key is removed from it
pub same-left : (s t : Slab Entry) (ks js js' : List ℕ) (rank : Rank) (key taken : ℕ) (slot : Option Entry)
    → IsIndexed s ks js → Finds Place s ks rank key → Takes Height s (rank_by Height (entry_of s key)) taken js js'
    → Updates s t key slot → SameAt s t js'
same-left s t ks js js' rank key taken slot indexed found from_heights updates =
    let one =
    taken-key Height s js js' key taken indexed.heights
    (stands-height s ks js found.index key indexed found.within found.is) from_heights in
    same-others s t js' key slot updates (λ i within is. taken-gone Height s js js' (rank_by Height (entry_of s key))
    taken indexed.heights from_heights i within (is ∙ sym one))

pub index-left : (s : Slab Entry) (ks js js' : List ℕ) (rank : Rank) (taken : ℕ) → IsIndexed s ks js
    → Takes Height s rank taken js js' → IsIndex Height s js'
index-left s ks js js' rank taken indexed takes = subst (λ (l : List ℕ). IsIndex Height s l) (sym takes.keys) (record {
  live =
      record {
        each = each-remove (λ k. ContainsKey s k) js takes.index (live-heights s ks js indexed).each takes.within;
      };
  rising = rising-remove Height s js takes.index indexed.heights takes.within;
})
