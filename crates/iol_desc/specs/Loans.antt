-- Places and entries after one of their values was borrowed.
use Rattle.std.specs.Prelude.{ℕ, Option, Some, slice_set}
use Rattle.std.specs.contracts.option.Option as option
use Rattle.std.specs.Borrow.{Lends, Fml, MutBor, RattleType}
use Rattle.iol_core.specs.NumberedLists.{changed}
use Rattle.iol_desc.specs.Tables.{Slots}
use Rattle.iol_desc.specs.EntryLists.{Listed}
use Rattle.iol_desc.specs.contracts.entries.Entries as entries
use Rattle.iol_desc.specs.contracts.places.Places.{the_row}

-- the places with x in one of them
abbrev pub with_place : {A : Type 0} → Slots A → (place : ℕ) → A → Slots A
with_place s n x = record s { places = slice_set s.places n (Some x) }

-- once the borrow r ends, the place has the last value written through r
abbrev pub LendsPlace : (T : RattleType) → MutBor (Slots T.Denot) → (place : ℕ) → MutBor T.Denot → Fml
LendsPlace T s n r = Lends (the_row T) T s r (with_place s.now n)

-- once the borrow r ends, there is the last value written through r
abbrev pub LendsValue : (T : RattleType) → MutBor (Option T.Denot) → MutBor T.Denot → Fml
LendsValue T s r = Lends (option.the_row T) T s r Some

-- the entries with x as the value of a number
abbrev pub with_entry : {A : Type 0} → Listed A → (n : ℕ) → A → Listed A
with_entry s n x = record s { entries = changed s.entries n x }

-- once the borrow r ends, the number has the last value written through r
abbrev pub LendsEntry : (T : RattleType) → MutBor (Listed T.Denot) → (n : ℕ) → MutBor T.Denot → Fml
LendsEntry T s n r = Lends (entries.the_row T) T s r (with_entry s.now n)
