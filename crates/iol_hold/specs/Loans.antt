-- The effect of a borrow of a store's memory.
use Rattle.std.specs.Prelude.{ℕ, List}
use Rattle.std.specs.Borrow.{Lends, MutBor, Fml, u8, Array}
use Rattle.iol_arena.specs.State.{with_bytes}
use Rattle.iol_hold.specs.StoreState.{Stored, with_arena}
use Rattle.iol_hold.specs.contracts.store.Store.{the_row}

-- once the borrow r ends, the memory from page p on has the last bytes of r
abbrev pub LendsRun : MutBor Stored → ℕ → MutBor (List ℕ) → Fml
LendsRun s p r = Lends the_row (Array u8 0) s r (λ w. with_arena s.now (with_bytes s.now.arena p w))
