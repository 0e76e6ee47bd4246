-- The objects that the call of a phase touches.
use Rattle.std.proofs.Common.{inl, inr, ◌≡◌, ℕ, ◌==◌, ◌⊎◌, List, [], ◌∷◌, ap, ◌∙◌, refl, sym, arith, Option, Some, true}
use Rattle.std.proofs.Common.{false, Bool, if◌then◌else◌}
use Rattle.std.specs.Prelude.{◌||◌, ◌&&◌}
use Rattle.std.specs.List.{list_any}
use Rattle.std.proofs.lemmas.Bool.Decides.{nat_tests}
use Rattle.std.proofs.lemmas.Grind.{common_steps}
use Rattle.iol_core.specs.State.{State, descriptor}
use Rattle.iol_core.specs.Calls.Writes.{is_file}
use Rattle.iol_laws.specs.Frame.{is_conn, is_end, touches_conn, touches_pipe, touches_fd, changes_files, admits_to}
use Rattle.iol_core.specs.declared.descriptors.Descriptor.{Descriptor}
use Rattle.iol_core.specs.declared.descriptors.Descriptor.TheVariants as on
use Rattle.iol_core.specs.declared.descriptors.Mode.TheVariants as modes
use Rattle.iol_core.specs.declared.events.Call.TheVariants as call
use Rattle.iol_core.specs.declared.events.Event.TheVariants as event
use Rattle.flash_http.specs.Request.{Answer}
use Rattle.flash_laws.specs.Conn.{uses_fd, is_head_only, most_read, next_call}
use Rattle.flash_laws.specs.declared.phase.Phase.{Phase}
use Rattle.flash_laws.specs.declared.phase.Phase.TheVariants.{Receiving, Reading as Reading, ClosingFile, SendingWhole}
use Rattle.flash_laws.specs.declared.phase.Phase.TheVariants.{SendingPiece, Disconnecting}
use Rattle.flash_laws.specs.declared.phase.Phase.TheVariants.{Closed}
use Rattle.flash_laws.specs.Conn.Fits.{Has}
use Rattle.flash_laws.specs.Site.{server}
use Rattle.flash_laws.proofs.Forms.{at}
use Rattle.flash_laws.proofs.Conn.Uses.{same-number}
use Rattle.flash_laws.proofs.Lists.{clash}
use Rattle.iol_core.specs.declared.events.Call.{Call}
use Rattle.flash_laws.proofs.Moves.{either-way}

not-file : (m : State) (fd c g : ℕ) → descriptor m server fd ≡ Some (on.Connection c)
    → ((fd == g) && is_file (descriptor m server fd)) ≡ false
not-file m fd c g is = ap (λ (d : Option Descriptor). (fd == g) && is_file d) is ∙ grind (arith)

left-of : (a b : Bool) → (a && b) ≡ true → a ≡ true
left-of true b u = refl
left-of false b u = absurd (cc)

-- a descriptor that the call closes or moves is a file's of the connection, or the connection itself
pub fds-call : (m : State) (fd c : ℕ) (buffered : List ℕ) (q : Answer) (d : Phase) (g : ℕ)
    → descriptor m server fd ≡ Some (on.Connection c)
    → touches_fd m (event.Call server (next_call fd (at buffered q d))) server g ≡ true
    → (uses_fd d g ≡ true) ⊎ (fd ≡ g)
fds-call m fd c buffered q Receiving g is t =
    absurd (clash ((fd == g) && is_file (descriptor m server fd)) t (not-file m fd c g is))
fds-call m fd c buffered q (Reading f) g is t = inl (by (is_head_only q) t)
  where
    by : (b : Bool) → touches_fd m (event.Call server (if b then call.Length f else call.IolRead f most_read)) server g
        ≡ true
        → (f == g) ≡ true
    by true t = absurd (cc)
    by false t = left-of (f == g) (is_file (descriptor m server f)) t
fds-call m fd c buffered q (ClosingFile f k) g is t = inl t
fds-call m fd c buffered q (SendingWhole s) g is t =
    absurd (clash ((fd == g) && is_file (descriptor m server fd)) t (not-file m fd c g is))
fds-call m fd c buffered q (SendingPiece s piece) g is t =
    absurd (clash ((fd == g) && is_file (descriptor m server fd)) t (not-file m fd c g is))
fds-call m fd c buffered q Disconnecting g is t = inr (same-number fd g t)
fds-call m fd c buffered q Closed g is t = inr (same-number fd g t)
fds-call m fd c buffered q d g is t = absurd (cc)

uses-conn : (m : State) (fd c k : ℕ) → descriptor m server fd ≡ Some (on.Connection c)
    → (list_any (is_conn k) (descriptor m server fd ∷ []) || false) ≡ true → c ≡ k
uses-conn m fd c k is t =
    (let e = sym (ap (λ (d : Option Descriptor). list_any (is_conn k) (d ∷ []) || false) is) ∙ t in
    grind (arith, nat_tests, common_steps, e))

uses-no_conn : (m : State) (g f pos k : ℕ) → descriptor m server g ≡ Some (on.File f pos modes.Read)
    → (list_any (is_conn k) (descriptor m server g ∷ []) || false) ≡ true → ⊥
uses-no_conn m g f pos k is t =
    (let e = sym (ap (λ (d : Option Descriptor). list_any (is_conn k) (d ∷ []) || false) is) ∙ t in cc)

-- the only connection that it touches is its own
pub conns-call : (m : State) (fd c : ℕ) (buffered : List ℕ) (q : Answer) (expected : List ℕ) (d : Phase) (k : ℕ)
    → descriptor m server fd ≡ Some (on.Connection c) → Has m q expected d
    → touches_conn m (event.Call server (next_call fd (at buffered q d))) k ≡ true → c ≡ k
conns-call m fd c buffered q expected Receiving k is has t = uses-conn m fd c k is t
conns-call m fd c buffered q expected (Reading f) k is has t = absurd (by (is_head_only q) t)
  where
    by : (b : Bool) → touches_conn m (event.Call server (if b then call.Length f else call.IolRead f most_read)) k
        ≡ true
        → ⊥
    by true t = cc
    by false t = uses-no_conn m f has.1.0 has.1.1 k has.1.2 t
conns-call m fd c buffered q expected (ClosingFile f x) k is has t =
    absurd (uses-no_conn m f has.0.0 has.0.1 k has.0.2 t)
conns-call m fd c buffered q expected (SendingWhole s) k is has t = uses-conn m fd c k is t
conns-call m fd c buffered q expected (SendingPiece s piece) k is has t = uses-conn m fd c k is t
conns-call m fd c buffered q expected Disconnecting k is has t = uses-conn m fd c k is t
conns-call m fd c buffered q expected Closed k is has t = uses-conn m fd c k is t
conns-call m fd c buffered q expected d k is has t = absurd (cc)

-- it touches no pipe
no-end : (m : State) (fd c p : ℕ) → descriptor m server fd ≡ Some (on.Connection c)
    → (list_any (is_end p) (descriptor m server fd ∷ []) || false) ≡ false
no-end m fd c p is = ap (λ (d : Option Descriptor). list_any (is_end p) (d ∷ []) || false) is

no-file-end : (m : State) (g f pos p : ℕ) → descriptor m server g ≡ Some (on.File f pos modes.Read)
    → (list_any (is_end p) (descriptor m server g ∷ []) || false) ≡ false
no-file-end m g f pos p is = ap (λ (d : Option Descriptor). list_any (is_end p) (d ∷ []) || false) is

pub pipes-call : (m : State) (fd c : ℕ) (buffered : List ℕ) (q : Answer) (expected : List ℕ) (d : Phase) (p : ℕ)
    → descriptor m server fd ≡ Some (on.Connection c) → Has m q expected d
    → touches_pipe m (event.Call server (next_call fd (at buffered q d))) p ≡ false
pipes-call m fd c buffered q expected Receiving p is has = no-end m fd c p is
pipes-call m fd c buffered q expected (Reading f) p is has =
    either-way (λ (k : Call). touches_pipe m (event.Call server k) p ≡ false) (is_head_only q) refl
    (no-file-end m f has.1.0 has.1.1 p has.1.2)
pipes-call m fd c buffered q expected (ClosingFile f x) p is has = no-file-end m f has.0.0 has.0.1 p has.0.2
pipes-call m fd c buffered q expected (SendingWhole s) p is has = no-end m fd c p is
pipes-call m fd c buffered q expected (SendingPiece s piece) p is has = no-end m fd c p is
pipes-call m fd c buffered q expected Disconnecting p is has = no-end m fd c p is
pipes-call m fd c buffered q expected Closed p is has = no-end m fd c p is
pipes-call m fd c buffered q expected d p is has = refl

-- it writes no file
pub files-call : (m : State) (fd c : ℕ) (buffered : List ℕ) (q : Answer) (d : Phase)
    → descriptor m server fd ≡ Some (on.Connection c)
    → changes_files m (event.Call server (next_call fd (at buffered q d))) ≡ false
files-call m fd c buffered q (Reading f) is =
    either-way (λ (k : Call). changes_files m (event.Call server k) ≡ false) (is_head_only q) refl refl
files-call m fd c buffered q (SendingWhole s) is = ap is_file is
files-call m fd c buffered q (SendingPiece s piece) is = ap is_file is
files-call m fd c buffered q d is = refl

-- it admits no domain to a pool
pub admits-call : (fd : ℕ) (buffered : List ℕ) (q : Answer) (d : Phase) (p : ℕ)
    → admits_to (event.Call server (next_call fd (at buffered q d))) p ≡ false
admits-call fd buffered q (Reading f) p =
    either-way (λ (k : Call). admits_to (event.Call server k) p ≡ false) (is_head_only q) refl refl
admits-call fd buffered q d p = refl
