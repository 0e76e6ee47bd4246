-- A slot for each descriptor of the server, and the connections that it does not have: those that wait for it, and
-- those of others.
use Rattle.std.specs.Prelude.{◌≡◌, ℕ, ◌+◌, ◌-◌, List, [], ◌++◌, length, replicate, slice_set, Option, Some}
use Rattle.std.specs.Prelude.{None, IsTrue, IsFalse}
use Rattle.iol_core.specs.Text.{bytes_of}
use Rattle.iol_core.specs.State.{Connection}
use Rattle.flash_laws.specs.Conn.{Conn}
use Rattle.flash_laws.specs.declared.phase.Phase.{Phase}
use Rattle.flash_laws.specs.declared.phase.Phase.TheVariants.{Closed}
use Rattle.flash_laws.specs.Site.Past.{Past}
use Rattle.flash_laws.specs.Site.{net_pool}

-- a slot for each descriptor, with this value in one of them
abbrev pub grown : {A : Type 0} → List (Option A) → (fd : ℕ) → List (Option A)
grown conns fd = conns ++ replicate (fd + 1 - length conns) None

abbrev pub with_at : {A : Type 0} → List (Option A) → (fd : ℕ) → Option A → List (Option A)
with_at conns fd x = slice_set (grown conns fd) fd x

-- a connection that is over is removed
abbrev pub left_by : {A : Type 0} → Phase → A → Option A
left_by Closed x = None
left_by d x = Some x

abbrev pub left_over : Conn → Option Conn
left_over x = left_by x.phase x

-- a connection that waits for the server
pub record Waits (p : Past) (c : ℕ) (k : Connection) : Type 0 where
  pub waits : IsFalse k.accepted
  pub pool_is : IsTrue (p.net c) → k.pool ≡ net_pool
  pub came_is : p.came c ≡ bytes_of k.incoming
  pub none_sent : p.sent c ++ bytes_of k.outgoing ≡ []

-- a connection that another domain accepted, or that was never made; nothing is stated about it
pub record Foreign (p : Past) (c : ℕ) (k : Connection) : Type 0 where
  pub other_pool : IsFalse (p.net c)
  pub taken : IsTrue k.accepted
