-- The end of the first request of some bytes, and whether it closes the connection.
use Rattle.std.specs.Prelude.{◌≡◌, ℕ, List, IsTrue, IsFalse, drop, take}
use Rattle.flash_clients.specs.Requests.{IsFirst}
use Rattle.flash_http.specs.Request.{Answer, LooksAtTarget}
use Rattle.flash_http.specs.Window.{window_in}
use Rattle.flash_http.specs.declared.windows.Window.{Window}
use Rattle.flash_http.specs.declared.windows.Window.TheVariants.{Head, TooLarge, Wait}
use Rattle.flash_laws.specs.Answers.{keeps}
use Rattle.iol_reactor.specs.declared.service.Frame.{Frame}
use Rattle.iol_reactor.specs.declared.service.Frame.TheVariants.{Incomplete, Complete, Last}

-- by the window of their first head, and by its answer
abbrev pub Framed : List ℕ → Frame → Type 0
Framed s Incomplete = window_in s ≡ Wait
Framed s (Complete size) = (q : Answer) × IsFirst (window_in s) s size q × IsTrue (keeps q)
Framed s (Last size) = (q : Answer) × IsFirst (window_in s) s size q × IsFalse (keeps q)

-- the target of the first head is interpreted, by the window of the bytes
abbrev pub LooksAtFirst : Window → List ℕ → Type 0
LooksAtFirst Wait s = ⊥
LooksAtFirst TooLarge s = ⊥
LooksAtFirst (Head skip len) s = LooksAtTarget (take len (drop skip s))
