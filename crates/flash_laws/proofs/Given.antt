-- The part of a script's response that was given does not depend on the further output of its worker, nor on the
-- outcomes of files still to be read.
use Rattle.std.proofs.Common.{◌≡◌, ℕ, ◌+◌, ◌≤◌, List, [], ◌++◌, length, take, ap, ◌∙◌, refl, sym, arith, true, false}
use Rattle.std.proofs.Common.{Bool, length-append}
use Rattle.std.proofs.lemmas.List.{take-append-le}
use Rattle.iol_core.specs.State.{State}
use Rattle.flash_http.specs.Request.{Wanted}
use Rattle.flash_laws.specs.Answers.Scripts.{script_response, script_body}
use Rattle.flash_laws.specs.Run.Fits.{Progress, Ran, HoldsBack, Goes, Continues, nothing_yet, HasStep}
use Rattle.flash_laws.specs.Run.OfferedBytes.{past_of, taken_by, is_stopping}
use Rattle.flash_laws.specs.Conn.OfferedBytes.{taken_of}
use Rattle.flash_laws.specs.declared.script_run.Run.{Run}
use Rattle.flash_laws.specs.declared.script_run.Step.{Step}
use Rattle.flash_laws.specs.declared.script_run.Step.TheVariants.{GivingPipe, MakingJob, WritingJob, DroppingJob}
use Rattle.flash_laws.specs.declared.script_run.Step.TheVariants.{MakingHead, SendingPart, ReadingOutput}
use Rattle.flash_laws.specs.declared.script_run.Step.TheVariants.{DroppingOutput, JoiningOutput, MakingFrame}
use Rattle.flash_laws.specs.declared.script_run.Step.TheVariants.{FillingFrame, DroppingHeld, ClosingPipe}
use Rattle.flash_laws.specs.declared.script_run.Step.TheVariants.{DiscardingJob, Failing}
use Rattle.flash_laws.specs.declared.script_run.Running.TheVariants.{InProgress}

-- two lists with a common prefix have the same first k bytes, if the prefix has that many
alike : (k : ℕ) (before a b x y : List ℕ) → k ≤ length before → a ≡ before ++ x → b ≡ before ++ y → take k a ≡ take k b
alike k before a b x y within is_a is_b =
    ap (λ (l : List ℕ). take k l) is_a
    ∙ (take-append-le k before x within
    ∙ (sym (take-append-le k before y within) ∙ ap (λ (l : List ℕ). take k l) (sym is_b)))

module _ (w : Wanted) (received past one other : List ℕ) (ended : Bool) where
  abbrev Same : (taken : ℕ) → Type 0
  Same taken = take (length past + taken) (script_response w (received ++ one))
      ≡ take (length past + taken) (script_response w (received ++ other))

  held-same : (held : List ℕ) → HoldsBack w (Ran received ended past) held → Same 0
  held-same held back =
      alike (length past + 0) past _ _ (script_body w.chunked (held ++ one)) (script_body w.chunked (held ++ other))
      (omega arith) (back one) (back other)

  goes-same : (broken : Bool) (held : List ℕ) → Goes broken w (Ran received ended past) held → Same 0
  goes-same true held goes = absurd (let bad = goes.0 in cc (bad))
  goes-same false held goes = held-same held goes

  part-same : (taken : ℕ) (part : List ℕ) → taken ≤ length part → Continues w (Ran received ended past) part []
      → Same taken
  part-same taken part within back =
      let long = length-append past part in
      alike (length past + taken) (past ++ part) _ _ (script_body w.chunked ([] ++ one))
      (script_body w.chunked ([] ++ other)) (omega (arith, long, within)) (back one) (back other)

  fresh-same : Ran received ended past ≡ nothing_yet → Same 0
  fresh-same is = none past (ap (λ (o : Progress). past_of o) is)
    where
      none : (l : List ℕ) → length l ≡ 0 → take (length l + 0) (script_response w (received ++ one))
          ≡ take (length l + 0) (script_response w (received ++ other))
      none [] e = refl
      none l e = absurd (omega (arith, e))

  -- at each step until the end of the output is read
  pub given-same : (job : ℕ → List ℕ) (m : State) (run : Run) (step : Step) → is_stopping (InProgress run step) ≡ false
      → HasStep job m w (Ran received ended past) run step
      → Same (taken_by (InProgress run step))
  given-same job m run (GivingPipe write) on has = fresh-same has.1.1
  given-same job m run (MakingJob f) on has = fresh-same has.1.1
  given-same job m run (WritingJob j f) on has = fresh-same has.2.1
  given-same job m run (DroppingJob j) on has = fresh-same has.2.1
  given-same job m run MakingHead on has = fresh-same has.1.1
  given-same job m run (SendingPart d frame) on has = part-same (taken_of d) has.part has.within has.continues
  given-same job m run (ReadingOutput held frame) on has = goes-same run.broken has.bytes has.goes
  given-same job m run (DroppingOutput a frame) on has = goes-same run.broken has.1.bytes has.1.goes
  given-same job m run (JoiningOutput held size piece len frame) on has = held-same (has.bytes ++ has.more) has.goes
  given-same job m run (MakingFrame held) on has = held-same has.bytes has.goes
  given-same job m run (FillingFrame held frame) on has = held-same has.0.bytes has.0.goes
  given-same job m run (DroppingHeld held chunk len frame) on has = part-same 0 has.1.part (omega arith) has.1.continues
  given-same job m run (ClosingPipe write) on has = fresh-same has.1.1
  given-same job m run (DiscardingJob j) on has = fresh-same has.2.1
  given-same job m run Failing on has = fresh-same has.1.1
  given-same job m run step on has = absurd (cc (on))
