-- Entries and their two indexes.
use Rattle.std.proofs.Common.{inl, inr, ◌≡◌, ◌≢◌, ℕ, ◌<◌, ◌≤◌, true, false, List, ◌∷◌, length, get_or, map, take, drop}
use Rattle.std.proofs.Common.{arith, refl, sym, ap, subst, ◌∙◌, Option, Some, None, unwrap_or, suc}
use Rattle.std.specs.List.{insert, remove}
use Rattle.std.proofs.lemmas.Bool.{cases_eq, cases_lt}
use Rattle.std.proofs.lemmas.Bool.Decides.{nat_tests}
use Rattle.std.proofs.lemmas.List.{get_or-map, length-map, map-append, take-map, drop-map, ext_get_or}
use Rattle.slab.specs.Slab.{Slab, Updates}
use Rattle.iol_evict.specs.declared.entry.Entry.{Entry}
use Rattle.iol_evict.specs.declared.entry.Rank.{Rank}
use Rattle.iol_evict.specs.declared.entry.By.{By}
use Rattle.iol_evict.specs.declared.entry.By.TheVariants.{Place}
use Rattle.iol_evict.specs.Order.{Table, no_entry, is_at, lies_before, entry_at, entry_or, put_in, without, set_at}
use Rattle.iol_evict.specs.Order.{with_height}
use Rattle.iol_evict.specs.Ranks.{rank_by, RankLt, RankLe}
use Rattle.iol_evict.specs.Indexes.{entry_of, rank_at, IsRising, HasRank, Finds, Adds, Takes}
use Rattle.iol_evict.proofs.RankOrder.{lt_not_le, le_refl}
use Rattle.iol_evict.proofs.Edits.{remove-cases}
use Rattle.iol_evict.proofs.Times.{StandsIn}
use Rattle.iol_evict.proofs.KeptOrder.{SameAt, same-entry}
use Rattle.iol_evict.proofs.EntryList.{is_at-file, is_at-at, is_at-true, is_at-false, insert-put_in, remove-without}
use Rattle.iol_evict.proofs.EntryList.{entry_at-is, entry_at-some}

abbrev pub entries_of : Slab Entry → List ℕ → List Entry
entries_of s keys = map (entry_of s) keys

abbrev pub rank_of_place : (file at : ℕ) → Rank
rank_of_place file at = record { height = 0; file = file; at = at }

pub read : (s : Slab Entry) (keys : List ℕ) (i : ℕ) → i < length keys
    → get_or (entries_of s keys) i no_entry ≡ entry_of s (get_or keys i 0)
read s keys i within = get_or-map (entry_of s) keys i 0 no_entry within

-- an entry that is below a place by its rank comes before it
lt-before : (e : Entry) (file at : ℕ) → RankLt (rank_by Place e) (rank_of_place file at) → lies_before e file at ≡ true
lt-before e file at lt =
    let f : e.file ≤ file = lt.file refl in
    let a : (e.file ≡ file → e.at < at) = λ same. lt.at refl same in
    elim (cases_eq e.file file) [
      | inl same ↦ (let less = a same in grind (arith, nat_tests, same, less))
      | inr other ↦
          grind (arith, nat_tests, f, other)
    ]

le-before : (e : Entry) (file at : ℕ) → RankLe (rank_of_place file at) (rank_by Place e) → lies_before e file at ≡ false
le-before e file at le =
    let f : file ≤ e.file = le.file refl in
    let a : (file ≡ e.file → at ≤ e.at) = λ same. le.at refl same in
    elim (cases_eq e.file file) [
      | inl same ↦
          (let more = a (sym same) in grind (arith, nat_tests, same, more))
      | inr other ↦
          grind (arith, nat_tests, f, other)
    ]

lt-away : (e : Entry) (file at : ℕ) → RankLt (rank_by Place e) (rank_of_place file at) → is_at e file at ≡ false
lt-away e file at lt = is_at-false e file at (λ f a. let less = lt.at refl f in omega (arith, less, a))

pub rank-place : (e : Entry) (file at : ℕ) → is_at e file at ≡ true → rank_by Place e ≡ rank_of_place file at
rank-place e file at here = ap (λ (f : ℕ). rank_of_place f e.at) (is_at-file e file at here)
    ∙ ap (λ (a : ℕ). rank_of_place file a) (is_at-at e file at here)

pub rank-here : (e : Entry) (file at : ℕ) → rank_by Place e ≡ rank_of_place file at → is_at e file at ≡ true
rank-here e file at is = is_at-true e file at (ap (λ (r : Rank). r.file) is) (ap (λ (r : Rank). r.at) is)

-- the rank of a place with an entry is among those of the keys
pub has-place : (s : Slab Entry) (keys : List ℕ) (file at : ℕ) → entry_at (entries_of s keys) file at ≢ None
    → HasRank Place s keys (rank_of_place file at)
has-place s keys file at some =
    let there = entry_at-some (entries_of s keys) file at some in
    let within : there.index < length keys =
    subst (λ (n : ℕ). there.index < n) (length-map keys (entry_of s)) there.within in
    record {
      index = there.index;
      within = within;
      has =
          rank-place (entry_of s (get_or keys there.index 0)) file at
          (subst (λ (e : Entry). is_at e file at ≡ true) (read s keys there.index within) there.here);
    }

-- likewise if the entries are those of a table
pub place-there : (s : Slab Entry) (keys : List ℕ) (t : Table) (room file at : ℕ) (rank : Rank)
    → ◌≡◌ {A = Table} (record { entries = entries_of s keys; room = room }) t → rank ≡ rank_of_place file at
    → entry_at t.entries file at ≢ None → HasRank Place s keys rank
place-there s keys t room file at rank same is there =
    subst (λ (r : Rank). HasRank Place s keys r) (sym is)
    (has-place s keys file at (subst (λ (u : Table). entry_at u.entries file at ≢ None) (sym same) there))

-- earlier entries are at other places
away-before : (s : Slab Entry) (keys : List ℕ) (file at n : ℕ) → IsRising Place s keys → n < length keys
    → rank_at Place s keys n ≡ rank_of_place file at → (i : ℕ) → i < n
    → is_at (get_or (entries_of s keys) i no_entry) file at ≡ false
away-before s keys file at n rising within has i lt =
    let below = subst (λ (r : Rank). RankLt (rank_at Place s keys i) r) has (rising.each i n lt within) in
    subst (λ (e : Entry). is_at e file at ≡ false) (sym (read s keys i (omega arith)))
    (lt-away (entry_of s (get_or keys i 0)) file at below)

here-at : (s : Slab Entry) (keys : List ℕ) (file at n : ℕ) → n < length keys
    → rank_at Place s keys n ≡ rank_of_place file at → is_at (get_or (entries_of s keys) n no_entry) file at ≡ true
here-at s keys file at n within has =
    subst (λ (e : Entry). is_at e file at ≡ true) (sym (read s keys n within))
    (rank-here (entry_of s (get_or keys n 0)) file at has)

-- the entry found by its place is that of the key
pub found-entry : (s : Slab Entry) (keys : List ℕ) (file at key : ℕ) → IsRising Place s keys
    → Finds Place s keys (rank_of_place file at) key → entry_or (entries_of s keys) file at ≡ entry_of s key
found-entry s keys file at key rising found =
    let short = subst (λ (n : ℕ). found.index < n) (sym (length-map keys (entry_of s))) found.within in
    let is =
    entry_at-is (entries_of s keys) found.index file at short
    (away-before s keys file at found.index rising found.within found.has)
    (here-at s keys file at found.index found.within found.has) in
    ap (λ (o : Option Entry). unwrap_or o no_entry) is ∙ read s keys found.index found.within ∙ ap (entry_of s) found.is

pub entries-same : (s t : Slab Entry) (keys : List ℕ) → SameAt s t keys → entries_of t keys ≡ entries_of s keys
entries-same s t keys same =
    ext_get_or no_entry (entries_of t keys) (entries_of s keys) (length-map keys (entry_of t)
    ∙ sym (length-map keys (entry_of s)))
    (λ i upto. let within : i < length keys = subst (λ (n : ℕ). i < n) (length-map keys (entry_of t)) upto in
    read t keys i within ∙ same-entry s t keys i same within ∙ sym (read s keys i within))

map-insert : (f : ℕ → Entry) (keys : List ℕ) (n key : ℕ) → map f (insert keys n key) ≡ insert (map f keys) n (f key)
map-insert f keys n key = map-append f (take n keys) (key ∷ drop n keys)
    ∙ (let t = take-map f n keys in let d = drop-map f n keys in cc)

map-remove : (f : ℕ → Entry) (keys : List ℕ) (n : ℕ) → map f (remove keys n) ≡ remove (map f keys) n
map-remove f keys n = map-append f (take n keys) (drop (suc n) keys)
    ∙ (let t = take-map f n keys in let d = drop-map f (suc n) keys in cc)

-- an entry is inserted
pub entries-put_in : (s t : Slab Entry) (old new : List ℕ) (key : ℕ) (e : Entry) → SameAt s t old → entry_of t key ≡ e
    → Adds Place t key old new → entries_of t new ≡ put_in (entries_of s old) e
entries-put_in s t old new key e same is adds =
    let put = ap (entries_of t) adds.keys ∙ map-insert (entry_of t) old adds.index key
    ∙ ap (λ (x : Entry). insert (entries_of t old) adds.index x) is
    ∙ ap (λ (es : List Entry). insert es adds.index e) (entries-same s t old same) in
    let short : adds.index ≤ length (entries_of s old) =
    subst (λ (n : ℕ). adds.index ≤ n) (sym (length-map old (entry_of s))) adds.place.within in
    put ∙ insert-put_in (entries_of s old) adds.index e short
    (λ i lt. let within : i < length old = omega (arith, lt, adds.place.within) in
    subst (λ (x : Entry). lies_before x e.file e.at ≡ true) (sym (read s old i within ∙ refl))
    (lt-before (entry_of s (get_or old i 0)) e.file e.at
    (subst (λ (x : Entry). RankLt (rank_by Place x) (rank_of_place e.file e.at)) (same-entry s t old i same within)
    (subst (λ (x : Entry). RankLt (rank_at Place t old i) (rank_by Place x)) is (adds.place.before i lt)))))
    (λ lt. let within : adds.index < length old = subst (λ (n : ℕ). adds.index < n) (length-map old (entry_of s)) lt in
    subst (λ (x : Entry). lies_before x e.file e.at ≡ false) (sym (read s old adds.index within))
    (le-before (entry_of s (get_or old adds.index 0)) e.file e.at
    (subst (λ (x : Entry). RankLe (rank_of_place e.file e.at) (rank_by Place x))
    (same-entry s t old adds.index same within)
    (subst (λ (x : Entry). RankLe (rank_by Place x) (rank_at Place t old adds.index)) is
    (adds.place.after adds.index (omega arith) within)))))

-- an entry is removed
pub entries-without : (s t : Slab Entry) (old new : List ℕ) (file at key : ℕ) → IsRising Place s old
    → Takes Place s (rank_of_place file at) key old new → SameAt s t new
    → entries_of t new ≡ without (entries_of s old) file at
entries-without s t old new file at key rising takes same =
    let short = subst (λ (n : ℕ). takes.index < n) (sym (length-map old (entry_of s))) takes.within in
    entries-same s t new same ∙ ap (entries_of s) takes.keys ∙ map-remove (entry_of s) old takes.index
    ∙ remove-without (entries_of s old) takes.index file at short
    (away-before s old file at takes.index rising takes.within takes.has)
    (here-at s old file at takes.index takes.within takes.has)

-- each rank occurs once
pub one_index : (by : By) (s : Slab Entry) (keys : List ℕ) (i n : ℕ) → IsRising by s keys → i < length keys
    → n < length keys → rank_at by s keys i ≡ rank_at by s keys n → i ≡ n
one_index by s keys i n rising in_i in_n same = elim (cases_lt i n) [
  | inl below ↦ absurd (never (rising.each i n below in_n))
  | inr from ↦ elim (cases_eq i n) [
    | inl is ↦ is
    | inr other ↦ absurd (never_after (rising.each n i (omega (arith, from, other)) in_i))
  ]
]
  where
    never : RankLt (rank_at by s keys i) (rank_at by s keys n) → ⊥
    never lt =
        lt_not_le (rank_at by s keys i) (rank_at by s keys n) lt
        (subst (λ (r : Rank). RankLe (rank_at by s keys n) r) (sym same) (le_refl (rank_at by s keys n)))

    never_after : RankLt (rank_at by s keys n) (rank_at by s keys i) → ⊥
    never_after lt =
        lt_not_le (rank_at by s keys n) (rank_at by s keys i) lt
        (subst (λ (r : Rank). RankLe r (rank_at by s keys n)) (sym same) (le_refl (rank_at by s keys n)))

-- the key taken by a key's rank is that key
pub taken-key : (by : By) (s : Slab Entry) (old new : List ℕ) (key taken : ℕ) → IsRising by s old → StandsIn old key
    → Takes by s (rank_by by (entry_of s key)) taken old new → taken ≡ key
taken-key by s old new key taken rising there takes =
    let one =
    one_index by s old takes.index there.index rising takes.within there.within (takes.has
    ∙ ap (λ (k : ℕ). rank_by by (entry_of s k)) (sym there.is)) in
    sym takes.is ∙ ap (λ (k : ℕ). get_or old k 0) one ∙ there.is

-- the key taken is no longer in the list
pub taken-gone : (by : By) (s : Slab Entry) (old new : List ℕ) (rank : Rank) (key : ℕ) → IsRising by s old
    → Takes by s rank key old new → (i : ℕ) → i < length new → get_or new i 0 ≢ key
taken-gone by s old new rank key rising takes i within is =
    let upto : i < length (remove old takes.index) = subst (λ (ks : List ℕ). i < length ks) takes.keys within in
    let stood = remove-cases old takes.index i takes.within upto in
    let same : get_or old stood.from 0 ≡ get_or old takes.index 0 =
    sym stood.is ∙ sym (ap (λ (ks : List ℕ). get_or ks i 0) takes.keys) ∙ is ∙ sym takes.is in
    let one =
    one_index by s old stood.from takes.index rising stood.within takes.within
    (ap (λ (k : ℕ). rank_by by (entry_of s k)) same) in
    absurd (elim stood.side [ inl c ↦ omega (arith, one, c.0, c.1) | inr c ↦ omega (arith, one, c.0, c.1) ])

-- the rank of a key in a list is among the list's ranks
pub has-rank : (by : By) (s : Slab Entry) (keys : List ℕ) (key : ℕ) → StandsIn keys key
    → HasRank by s keys (rank_by by (entry_of s key))
has-rank by s keys key there =
    record { index = there.index; within = there.within; has = ap (λ (k : ℕ). rank_by by (entry_of s k)) there.is }

-- the entries of two keys are at two places
pub places-apart : (s : Slab Entry) (keys : List ℕ) (a b : ℕ) → IsRising Place s keys → StandsIn keys a
    → StandsIn keys b → a ≢ b → (entry_of s a).file ≡ (entry_of s b).file → (entry_of s a).at ≡ (entry_of s b).at → ⊥
places-apart s keys a b rising in_a in_b other f t =
    let ra = ap (λ (k : ℕ). rank_by Place (entry_of s k)) in_a.is in
    let rb = ap (λ (k : ℕ). rank_by Place (entry_of s k)) in_b.is in
    let mid : rank_by Place (entry_of s a) ≡ rank_by Place (entry_of s b) =
    ap (λ (x : ℕ). rank_of_place x (entry_of s a).at) f ∙ ap (λ (x : ℕ). rank_of_place (entry_of s b).file x) t in
    let one = one_index Place s keys in_a.index in_b.index rising in_a.within in_b.within (ra ∙ mid ∙ sym rb) in
    other (sym in_a.is ∙ ap (λ (k : ℕ). get_or keys k 0) one ∙ in_b.is)

-- the height of an entry is set
pub entries-with_height : (s t : Slab Entry) (keys : List ℕ) (file at height key : ℕ) → IsRising Place s keys
    → Finds Place s keys (rank_of_place file at) key
    → Updates s t key (Some (record (entry_of s key) { height = height }))
    → entries_of t keys ≡ with_height (entries_of s keys) file at height
entries-with_height s t keys file at height key rising found updates =
    ext_get_or no_entry (entries_of t keys) (with_height (entries_of s keys) file at height)
    (length-map keys (entry_of t) ∙ sym (length-map keys (entry_of s))
    ∙ sym (length-map (entries_of s keys) (set_at file at height)))
    (λ i upto.
    let within : i < length keys = subst (λ (n : ℕ). i < n) (length-map keys (entry_of t)) upto in
    let short = subst (λ (n : ℕ). i < n) (sym (length-map keys (entry_of s))) within in
    read t keys i within ∙ each i within ∙ ap (set_at file at height) (sym (read s keys i within))
    ∙ sym (get_or-map (set_at file at height) (entries_of s keys) i no_entry no_entry short))
  where
    here : (e : Entry) → is_at e file at ≡ true → record e { height = height } ≡ set_at file at height e
    here e is = rw is refl

    away : (e : Entry) → is_at e file at ≡ false → e ≡ set_at file at height e
    away e is = rw is refl

    each : (i : ℕ) → i < length keys
        → entry_of t (get_or keys i 0) ≡ set_at file at height (entry_of s (get_or keys i 0))
    each i within = elim (cases_eq (get_or keys i 0) key) [
      | inl same ↦ ap (entry_of t) same ∙ ap (λ (o : Option Entry). unwrap_or o no_entry) updates.changed
          ∙ here (entry_of s key)
          (rank-here (entry_of s key) file at (sym (ap (λ (k : ℕ). rank_by Place (entry_of s k)) found.is)
          ∙ found.has))
          ∙ ap (λ (k : ℕ). set_at file at height (entry_of s k)) (sym same)
      | inr other ↦ ap (λ (o : Option Entry). unwrap_or o no_entry) (updates.others (get_or keys i 0) other)
          ∙ away (entry_of s (get_or keys i 0))
          (is_at-false (entry_of s (get_or keys i 0)) file at
          (λ f a.
          other
          (same_key s keys i found.index file at rising within found.within
          (rank-place (entry_of s (get_or keys i 0)) file at
          (is_at-true (entry_of s (get_or keys i 0)) file at f a)) found.has ∙ found.is)))
    ]
      where
        same_key : (s : Slab Entry) (keys : List ℕ) (i n file at : ℕ) → IsRising Place s keys → i < length keys
            → n < length keys → rank_at Place s keys i ≡ rank_of_place file at
            → rank_at Place s keys n ≡ rank_of_place file at → get_or keys i 0 ≡ get_or keys n 0
        same_key s keys i n file at rising in_i in_n hi hn =
            ap (λ (k : ℕ). get_or keys k 0) (one_index Place s keys i n rising in_i in_n (hi ∙ sym hn))
