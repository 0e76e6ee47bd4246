-- A line that was parsed has an action.
use Rattle.std.proofs.Common.{◌≡◌, ◌↔◌, inr, refl, sym, subst, true, List, ℕ, Option, IfSome, IsSome}
use Rattle.std.specs.declared.option.Option.TheVariants.{Some, None}
use Rattle.iol_core.specs.declared.events.Event.{Event}
use Rattle.iolite.specs.declared.script.Asked.{Asked}
use Rattle.iolite.specs.declared.script.Line.{Line}
use Rattle.iolite.specs.declared.setup.Setup.{Setup}
use Rattle.iolite.specs.Outside.{IsEvent}
use Rattle.iolite.specs.Script.{Asks, AsksSomething, IsBadAfter, line_of}
use Rattle.iolite.specs.Setup.{SetsUp, is_header}
use Rattle.iolite.specs.Words.{rest_of, word}

pub asks_if_read : (r : Option Asked) (l : List ℕ) → IfSome r (λ a. Asks l (line_of a))
    → (r ≡ None → (x : Line) → ¬ (Asks l x)) → IsSome r ↔ AsksSomething l
asks_if_read (Some a) l asks none = (λ e. (line_of a, asks), λ so. refl)
asks_if_read None l asks none = (λ e. cc, λ so. absurd (none refl so.0 so.1))

-- an event of the words into which a line was split is one of the line
pub event_here : (first rest a b : List ℕ) (e : Event) → first ≡ a → rest ≡ b → IsEvent first rest e → IsEvent a b e
event_here first rest a b e p q is = subst (λ x. IsEvent x b e) p (subst (λ y. IsEvent first y e) q is)

pub event_there : (first rest a b : List ℕ) (e : Event) → first ≡ a → rest ≡ b → IsEvent a b e → IsEvent first rest e
event_there first rest a b e p q is = event_here a b first rest e (sym p) (sym q) is

-- a bad line, by its words
pub bad_header : (setup : Setup) (late : Type 0) (l first rest : List ℕ) → first ≡ word l → rest ≡ rest_of l
    → is_header first ≡ true → ((new : Setup) → ¬ (SetsUp first rest setup new)) → IsBadAfter setup late l
bad_header setup late l first rest p q header none =
    inr (
      subst (λ x. is_header x ≡ true) p header,
      inr
          (λ new sets.
          none new
          (subst (λ x. SetsUp x rest setup new) (sym p) (subst (λ y. SetsUp (word l) y setup new) (sym q) sets))),
    )
