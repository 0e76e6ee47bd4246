-- Parsing a text that may be of one kind or another.
use Rattle.std.proofs.Common.{◌⊎◌, inl, inr, Option, Ok, Err}
use Rattle.std.specs.Prelude.{Result}
use Rattle.std.specs.declared.option.Option.TheVariants.{Some, None}
use Rattle.iolite.specs.Reads.{ReadsAs}
use Rattle.iolite.specs.Setup.{Takes}
use Rattle.iolite.specs.declared.headers.HeaderError.{HeaderError}
use Rattle.iolite.specs.declared.setup.Setup.{Setup}

-- a text that is not of the first kind is parsed as one of the second
pub reads_second : {A B : Type 0} {P Q : B → Type 0} {meant : A → B} {Can : A → Type 0} (r : Option A)
    → ((y : B) → ¬ (P y)) → ReadsAs Q meant Can r → ReadsAs (λ y. P y ⊎ Q y) meant Can r
reads_second (Some x) lacks reads = record { some = inr reads.some; can = reads.can; none = λ e. absurd (cc e) }
reads_second None lacks reads =
    record {
      some = reads.some;
      can = reads.can;
      none = λ e y is. elim is [ inl p ↦ lacks y p | inr q ↦ reads.none e y q ];
    }

-- a result for one predicate is a result for an equivalent one
pub takes_as : {A : Type 0} {P Q : Setup → Type 0} (now : Setup) (r : Result A HeaderError) → ((x : Setup) → P x → Q x)
    → ((x : Setup) → Q x → P x) → Takes P now r → Takes Q now r
takes_as now (Ok a) to from takes = record { sets = to now takes.sets; none = λ e. absurd (cc e) }
takes_as now (Err x) to from takes = record { sets = takes.sets; none = λ e y is. takes.none e y (from y is) }
