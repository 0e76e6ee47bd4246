-- Bytes of a queue, offered several slices at once.
use Rattle.std.specs.Prelude.{◌≡◌, ◌≢◌, ◌<◌, ℕ, Bool, List, [], ◌∷◌, length, take, drop, IsTrue}
use Rattle.iol_core.specs.Text.{bytes_of}
use Rattle.iol_hold.specs.StoreState.{Stored}
use Rattle.iol_hold.specs.Texts.{text_of}
use Rattle.iol_hold.specs.declared.slices.Slice.{Slice}

-- the first bytes of the i-th slice, at most `most`; no bytes if there is no such slice
abbrev pub part_of : Stored → List Slice → (i most : ℕ) → List ℕ
part_of s xs i most = take most (bytes_of (text_of s (take 1 (drop i xs))))

-- The last call of a taker took fewer bytes than it was offered, if the drain is reported as failed.
abbrev pub EndsShort : {G : Type 0} → (gathers : G → List ℕ → ℕ → G → Type 0) → (after : G) → (failed : Bool) → Type 0
EndsShort {G} gathers after failed = IsTrue failed → (before : G) × (offered : List ℕ) × (n : ℕ)
    × gathers before offered n after × (n < length offered)

-- A call of a taker: the bytes that it was offered, the number of them that it took, and its state after the call.
pub record Gathering (G : Type 0) : Type 0 where
  pub offered : List ℕ
  pub taken : ℕ
  pub after : G

-- These calls lead from one state of a taker to another. Each is offered some bytes, and each but the last takes all of
-- them.
abbrev pub AreCalls : {G : Type 0} → (gathers : G → List ℕ → ℕ → G → Type 0) → (before : G) → List (Gathering G)
    → (after : G) → Type 0
AreCalls gathers before [] after = after ≡ before
AreCalls gathers before (c ∷ cs) after = gathers before c.offered c.taken c.after × (0 < length c.offered)
    × (cs ≢ [] → c.taken ≡ length c.offered) × AreCalls gathers c.after cs after

-- There are such calls.
abbrev pub IsCalled : {G : Type 0} → (gathers : G → List ℕ → ℕ → G → Type 0) → (before after : G) → Type 0
IsCalled {G} gathers before after = (calls : List (Gathering G)) × AreCalls gathers before calls after
