-- Definitions for the state when all are idle.
use Rattle.std.specs.Prelude.{◌≡◌, ℕ, nat_lt, List, [], ◌∷◌, ◌++◌, Option, Some, IsTrue, IsFalse}
use Rattle.std.specs.List.{list_all}
use Rattle.iol_core.specs.NumberedLists.{in_place, taken}
use Rattle.iol_core.specs.State.{State, descriptor}
use Rattle.iol_core.specs.declared.descriptors.Descriptor.TheVariants as on
use Rattle.flash_http.specs.declared.windows.Window.TheVariants.{Wait}
use Rattle.flash_http.specs.Window.{window_in}
use Rattle.flash_http.specs.Request.{Answer}
use Rattle.flash_laws.specs.Answers.{Reads, keeps}
use Rattle.flash_laws.specs.Client.{is_for_script}
use Rattle.flash_laws.specs.Conn.Policy.{most_conns}
use Rattle.flash_laws.specs.SiteContents.{SiteContents, MayBeExpected, Responds}
use Rattle.flash_laws.specs.Site.{server}

-- The server has the maximum number of connections: that many are in the list, and each of these is open.
pub record IsFull {A : Type 0} (m : State) (clients : List (Option A)) : Type 0 where
  pub most : IsFalse (nat_lt (taken clients) most_conns)
  pub each : (fd : ℕ) (x : A) → in_place clients fd ≡ Some x
      → (c : ℕ) × (descriptor m server fd ≡ Some (on.Connection c))

-- No input of the stream asks for the connection to be closed: after each of its requests it stays open, and there is
-- no further request (RFC 9112, section 9.3).
pub record StaysOpen (s : List ℕ) : Type 0 where
  pub qs : List Answer
  pub rest : List ℕ
  pub reads : Reads s qs rest
  pub open_yet : IsTrue (list_all (λ q. keeps q) qs)
  pub no_more : window_in rest ≡ Wait

-- The first request of the stream without whole response is for a script: these bytes answer the requests before it,
-- and it up to this part of its response.
pub record AnswersScript (site_contents : SiteContents) (s bytes part : List ℕ) : Type 0 where
  pub qs : List Answer
  pub request : Answer
  pub rest : List ℕ
  pub reads : Reads s (qs ++ request ∷ []) rest
  pub open_yet : IsTrue (list_all (λ p. keeps p) qs)
  pub script : IsTrue (is_for_script site_contents.scripts request)
  pub before : List ℕ
  pub responds : Responds site_contents qs before
  pub so_far : bytes ≡ before ++ part
  pub after : List ℕ
  pub may : MayBeExpected site_contents request (part ++ after)
