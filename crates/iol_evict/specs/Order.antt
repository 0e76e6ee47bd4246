-- The entries of an order and their changes, by GreedyDual-Size (Cao and Irani, "Cost-Aware WWW Proxy Caching
-- Algorithms", 1997).
use Rattle.std.specs.Prelude.{◌≡◌, ℕ, ◌+◌, ◌-◌, ◌*◌, ◌/◌, ◌^◌, ◌<◌, ◌≤◌, ◌==◌, ◌&&◌, ◌||◌, nat_lt, if◌then◌else◌, Bool}
use Rattle.std.specs.Prelude.{List, [], ◌∷◌, map, find, Option, None, unwrap_or, Result, IsOk, OnOk, OnErr}
use Rattle.iol_evict.specs.declared.entry.Entry.{Entry}
use Rattle.iol_evict.specs.declared.entry.TheConstants.{MAX_LOW}

-- the entries in the order of file and place, and the number of entries that can be inserted without allocating
pub record Table : Type 0 where
  pub entries : List Entry
  pub room : ℕ

-- L, the entries in the order of file and place, the number of entries that can enter without allocating, and the
-- number of places kept in addition for later entries
pub record Ranking : Type 0 where
  pub low : ℕ
  pub entries : List Entry
  pub room : ℕ
  pub kept : ℕ

-- the height above L of a new entry: its cost divided by its size in bytes, in units of 2^-24
abbrev pub worth : (size cost : ℕ) → ℕ
worth size cost = cost * 2 ^ 24 / size

abbrev pub is_at : Entry → (file at : ℕ) → Bool
is_at e file at = (e.file == file) && (e.at == at)

abbrev pub lies_before : Entry → (file at : ℕ) → Bool
lies_before e file at = nat_lt e.file file || ((e.file == file) && nat_lt e.at at)

-- the entry at a place
abbrev pub entry_at : List Entry → (file at : ℕ) → Option Entry
entry_at es file at = find (λ e. is_at e file at) es

abbrev pub no_entry : Entry
no_entry = record { file = 0; at = 0; size = 0; cost = 0; height = 0 }

-- the entry at a place, if there is one
abbrev pub entry_or : List Entry → (file at : ℕ) → Entry
entry_or es file at = unwrap_or (entry_at es file at) no_entry

-- the entries with one more, in the order of file and place
abbrev pub put_in : List Entry → Entry → List Entry
put_in [] e = e ∷ []
put_in (x ∷ xs) e = if lies_before x e.file e.at then x ∷ put_in xs e else e ∷ x ∷ xs

abbrev pub without : List Entry → (file at : ℕ) → List Entry
without [] file at = []
without (x ∷ xs) file at = if is_at x file at then xs else x ∷ without xs file at

-- the entry with this height, if it is at the place
abbrev pub set_at : (file at height : ℕ) → Entry → Entry
set_at file at height e = if is_at e file at then record e { height = height } else e

abbrev pub with_height : List Entry → (file at height : ℕ) → List Entry
with_height es file at height = map (set_at file at height) es

-- a table with one more entry, in reserved room
abbrev pub with_entry : Table → Entry → Table
with_entry t e = record { entries = put_in t.entries e; room = t.room - 1 }

-- a table without the entry at a place, which leaves room for one more
abbrev pub without_entry : Table → (file at : ℕ) → Table
without_entry t file at = record { entries = without t.entries file at; room = t.room + 1 }

-- a table whose entry at a place has this height
abbrev pub with_height_at : Table → (file at height : ℕ) → Table
with_height_at t file at height = record t { entries = with_height t.entries file at height }

-- an entry is inserted, its worth above L
abbrev pub entered : Ranking → (file at size cost : ℕ) → Ranking
entered r file at size cost =
    let e : Entry = record { file = file; at = at; size = size; cost = cost; height = r.low + worth size cost } in
    record r { entries = put_in r.entries e; room = r.room - 1 }

-- an entry is used: it gets the height with which it would enter now
abbrev pub hit_at : Ranking → (file at : ℕ) → Ranking
hit_at r file at =
    let e : Entry = entry_or r.entries file at in
    record r { entries = with_height r.entries file at (r.low + worth e.size e.cost) }

-- an entry is removed, and L does not change
abbrev pub left_at : Ranking → (file at : ℕ) → Ranking
left_at r file at = record r { entries = without r.entries file at; room = r.room + 1 }

abbrev pub lowered_by : (low : ℕ) → Entry → Entry
lowered_by low e = record e { height = e.height - low }

-- above 2^62, L is subtracted from every height and from itself; a height below it becomes 0
abbrev pub lowered : Ranking → Ranking
lowered r =
    if nat_lt MAX_LOW r.low
    then record r { low = 0; entries = map (lowered_by r.low) r.entries }
    else r

-- an entry is evicted: L becomes the height that it had
abbrev pub evicted_at : Ranking → (file at : ℕ) → Ranking
evicted_at r file at = lowered (record (left_at r file at) { low = (entry_or r.entries file at).height })

-- a place of the room is kept
abbrev pub with_one_kept : Ranking → Ranking
with_one_kept r = record r { room = r.room - 1; kept = r.kept + 1 }

-- a kept place is room again
abbrev pub with_one_given_back : Ranking → Ranking
with_one_given_back r = record r { room = r.room + 1; kept = r.kept - 1 }

-- an entry may be inserted, in reserved room: it has bytes, and there is no entry at its place
pub record MayPut (t : Table) (e : Entry) : Type 0 where
  pub room : 0 < t.room
  pub absent : entry_at t.entries e.file e.at ≡ None
  pub sized : 0 < e.size

-- The room does not decrease. If there is as much as requested there is no error, and an error leaves it
-- unchanged.
pub record KeepsRoom {E : Type 0} (count old new : ℕ) (r : Result (Unit {0}) E) : Type 0 where
  pub no_less : old ≤ new
  pub err : OnErr r (new ≡ old)
  pub succeeds : count ≤ old → IsOk r

-- Room was reserved for that many more entries, and the entries are unchanged.
pub record Reserves {E : Type 0} (count : ℕ) (old new : Table) (r : Result (Unit {0}) E)
    : Type 0 where
  pub room : OnOk r (count ≤ new.room)
  pub entries : new.entries ≡ old.entries
  pub keeps : KeepsRoom count old.room new.room r
