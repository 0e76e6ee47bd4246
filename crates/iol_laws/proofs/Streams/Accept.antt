-- An accepted connection stays accepted.
use Rattle.std.proofs.Common.{inl, inr, suc, ◌≡◌, ℕ, List, [], ◌∷◌, ap, ◌∙◌, refl, sym, subst, Option, Some, None, true}
use Rattle.std.proofs.Common.{false, Bool}
use Rattle.std.specs.Prelude.{Result, Ok, Err}
use Rattle.std.proofs.lemmas.Bool.{cases_eq}
use Rattle.iol_core.specs.NumberedLists.{lookup, in_place}
use Rattle.iol_core.specs.State.{State, Connection, domain, descriptor, conn_at, is_over, with_conn}
use Rattle.iol_core.specs.Meaning.{Meaning, Step}
use Rattle.iol_core.specs.Run.{called}
use Rattle.iol_core.specs.declared.refusals.Refusal.{Refusal}
use Rattle.iol_core.specs.declared.descriptors.Descriptor.{Descriptor}
use Rattle.iol_core.specs.declared.descriptors.Descriptor.TheVariants as on
use Rattle.iol_core.specs.declared.events.Call.{Call}
use Rattle.iol_core.specs.declared.events.Call.TheVariants as call
use Rattle.iol_core.specs.declared.events.Reply.{Reply}
use Rattle.iol_laws.specs.Order.{Once, IsOrderly}
use Rattle.iol_laws.proofs.ConnChanges.{Change, Closes, Takes, changed_by, turned, all_turned, on_conn, closings}
use Rattle.iol_laws.proofs.ConnChanges.{changes, conns_turned, once_turned, IsAllowed, AllAllowed}
use Rattle.iol_laws.proofs.Streams.WaitingConn.{opened-conn}
use Rattle.iol_laws.proofs.Connections.{conn-missing, conn-over, conn-there, conns_conn, conns_same}

abbrev pub IsAccepted : State → ℕ → Type 0
IsAccepted s c = (conn_at s c).accepted ≡ true

pub accepted-with_conn : (s : State) (e : ℕ) (x : Connection) (c : ℕ) → Once s.conns → (e ≡ c → x.accepted ≡ true)
    → IsAccepted s c → IsAccepted (with_conn s e x) c
accepted-with_conn s e x c once new was = elim (cases_eq e c) [
  | inr differ ↦ ap (λ (k : Connection). k.accepted) (conns_conn s e x c differ) ∙ was
  | inl same ↦ subst (λ n. IsAccepted (with_conn s e x) n) same (by (is_over x) refl (lookup s.conns e) refl (new same))
]
  where
    by : (b : Bool) → is_over x ≡ b → (o : Option Connection) → lookup s.conns e ≡ o → x.accepted ≡ true
        → IsAccepted (with_conn s e x) e
    by true over o is new_is = ap (λ (k : Connection). k.accepted) (conn-over s e x once over)
    by false over (Some y) is new_is = ap (λ (k : Connection). k.accepted) (conn-there s e x y is over) ∙ new_is
    by false over None is new_is = ap (λ (k : Connection). k.accepted) (conn-missing s e x is over)

pub accepted_turned : (s : State) (e : ℕ × Change) (c : ℕ) → Once s.conns → IsAccepted s c → IsAccepted (turned s e) c
accepted_turned s e c once was =
    accepted-with_conn s e.0 _ c once (λ same. still e.1 (conn_at s e.0) (ap (λ n. (conn_at s n).accepted) same ∙ was))
    was
  where
    still : (x : Change) (k : Connection) → k.accepted ≡ true → (changed_by x k).accepted ≡ true
    still Takes k is = refl
    still x k is = is

accepted_all : (s : State) (es : List (ℕ × Change)) (c : ℕ) → Once s.conns → IsAccepted s c
    → IsAccepted (all_turned s es) c
accepted_all s [] c once was = was
accepted_all s (e ∷ es) c once was =
    accepted_all (turned s e) es c (once_turned s e once) (accepted_turned s e c once was)

pub accepted_called : (s : State) (d : ℕ) (k : Call) (c : ℕ) → Once s.conns → IsAccepted s c
    → IsAccepted (called s d k).after c
accepted_called s d k c once was =
    ap (λ (x : Connection). x.accepted) (conns_same (all_turned s (changes s d k)) (called s d k).after (λ n. false)
    (conns_turned s d k).conns c refl) ∙ accepted_all s (changes s d k) c once was

pub accepted_outcome : (m : Meaning Reply) (old new : State) (r : Result Reply Refusal) (c : ℕ) → IsAccepted m.after c
    → IsAccepted old c → Step m old r new → IsAccepted new c
accepted_outcome m old new (Ok a) c after was step = subst (λ (s : State). IsAccepted s c) (sym step.2) after
accepted_outcome m old new (Err x) c after was step = subst (λ (s : State). IsAccepted s c) (sym step.1) was

-- a change by a descriptor is allowed if it is allowed for each accepted, open connection
allowed_one : (s : State) (d f : ℕ) (x : Change) → IsOrderly s
    → ((c : ℕ) → ((conn_at s c).accepted ≡ true) × ((conn_at s c).closed ≡ false) → IsAllowed s (c, x))
    → AllAllowed s (on_conn (descriptor s d f) x)
allowed_one s d f x order may = by (descriptor s d f) refl
  where
    by : (o : Option Descriptor) → descriptor s d f ≡ o → AllAllowed s (on_conn o x)
    by (Some (on.Connection c)) is = (may c (opened-conn s d f c order is), tt)
    by o is = tt

allowed_closings : (s : State) (list : List (Option Descriptor)) → Once s.conns
    → ((k c : ℕ) → in_place list k ≡ Some (on.Connection c) → IsAccepted s c) → AllAllowed s (closings list)
allowed_closings s [] once taken = tt
allowed_closings s (None ∷ list) once taken = allowed_closings s list once (λ k c is. taken (suc k) c is)
allowed_closings s (Some (on.File f at mode) ∷ list) once taken =
    allowed_closings s list once (λ k c is. taken (suc k) c is)
allowed_closings s (Some (on.ReadEnd p) ∷ list) once taken = allowed_closings s list once (λ k c is. taken (suc k) c is)
allowed_closings s (Some (on.WriteEnd p) ∷ list) once taken =
    allowed_closings s list once (λ k c is. taken (suc k) c is)
allowed_closings s (Some (on.Connection e) ∷ list) once taken = (
  taken 0 e refl,
  allowed_closings (turned s (e, Closes)) list (once_turned s (e, Closes) once)
      (λ k c is. accepted_turned s (e, Closes) c once (taken (suc k) c is)),
)

pub allowed_called : (s : State) (d : ℕ) (k : Call) → IsOrderly s → AllAllowed s (changes s d k)
allowed_called s d call.Exit order =
    allowed_closings s (domain s d).fds order.once (λ k c is. (opened-conn s d k c order is).0)
allowed_called s d (call.Close f) order = allowed_one s d f Closes order (λ c both. both.0)
allowed_called s d (call.IolRead f n) order = allowed_one s d f _ order (λ c both. tt)
allowed_called s d (call.Read f n) order = allowed_one s d f _ order (λ c both. tt)
allowed_called s d (call.IolWrite f a) order = allowed_one s d f _ order (λ c both. both)
allowed_called s d (call.Write f bytes) order = allowed_one s d f _ order (λ c both. both)
allowed_called s d call.Accept order = (tt, tt)
allowed_called s d k order = tt
