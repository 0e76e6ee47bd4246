-- Parsing a script's bytes.
use Rattle.std.proofs.Common.{◌≡◌, ◌≤◌, ◌<◌, ◌∙◌, ◌⊎◌, inl, inr, ℕ, List, [], ◌++◌, Result, Ok, Err, IfSome, IfOk}
use Rattle.std.proofs.Common.{OnErr, length, take, arith, ap, subst, sym}
use Rattle.std.proofs.lemmas.Bool.{cases_lt}
use Rattle.std.proofs.lemmas.List.{take_all, length-take}
use Rattle.std.proofs.lemmas.Option.{IfSome_then}
use Rattle.std.specs.Option.{option_map}
use Rattle.std.specs.declared.option.Option.{Option}
use Rattle.std.specs.declared.option.Option.TheVariants.{Some, None}
use Rattle.iolite.specs.declared.replay.TheConstants.{MAX_SCRIPT_BYTES}
use Rattle.iolite.specs.Script.{IsScriptText, IsWholeOrTooLong}

-- the bytes read up to a limit above the maximum are all bytes, or too long
IsWholeOrTooLong-cases : (limit : ℕ) (given read : List ℕ) → MAX_SCRIPT_BYTES < limit → read ≡ take limit given
    → (limit < length given) ⊎ (length given ≤ limit) → IsWholeOrTooLong read given
IsWholeOrTooLong-cases limit given read past e (inl longer) =
    inr (omega (arith, length-take limit given, ap length e), omega arith)
IsWholeOrTooLong-cases limit given read past e (inr all) = inl (e ∙ take_all limit given all)

-- the same of a reader's known bytes
pub IsWholeOrTooLong-take : (known : Option (List ℕ)) (limit : ℕ) (read start : List ℕ) → start ≡ []
    → MAX_SCRIPT_BYTES < limit → IfSome (option_map (take limit) known) (λ xs. read ≡ start ++ xs)
    → IfSome known (IsWholeOrTooLong read)
IsWholeOrTooLong-take None limit read start e past h = h
IsWholeOrTooLong-take (Some given) limit read start e past h =
    IsWholeOrTooLong-cases limit given read past (subst (λ s. read ≡ s ++ take limit given) e h)
    (cases_lt limit (length given))

-- if the bytes read are a script, they are all bytes
script-whole : (read given : List ℕ) → IsWholeOrTooLong read given → IsScriptText read → read ≡ given
script-whole read given (inl e) script = e
script-whole read given (inr long) script = absurd (omega (arith, long.0, script.0))

-- if all bytes are a script, so are the bytes read
script-given : (read given : List ℕ) → IsWholeOrTooLong read given → IsScriptText given → IsScriptText read
script-given read given (inl e) script = subst IsScriptText (sym e) script
script-given read given (inr long) script = absurd (omega (arith, long.1, script.0))

-- a text that was read as a script is all of the given bytes
pub script-is_given : {X E : Type 0} (bytes_of : X → List ℕ) (known : Option (List ℕ)) (read : List ℕ) (r : Result X E)
    → IfSome known (IsWholeOrTooLong read) → IfOk r (λ text. bytes_of text ≡ read)
    → IfOk r (λ text. IsScriptText (bytes_of text)) → IfOk r (λ text. IfSome known (λ given. bytes_of text ≡ given))
script-is_given bytes_of known read (Ok text) found same script =
    IfSome_then known found (λ given whole. same ∙ script-whole read given whole (subst IsScriptText same script))
script-is_given bytes_of known read (Err e) found same script = same

-- if the bytes are refused, they are no script
pub refused-is_no_script : {X E : Type 0} (known : Option (List ℕ)) (read : List ℕ) (r : Result X E) (e : E)
    → IfSome known (IsWholeOrTooLong read) → OnErr r (¬ (IsScriptText read)) → r ≡ Err e
    → IfSome known (λ given. ¬ (IsScriptText given))
refused-is_no_script known read (Ok text) e found bad is = cc
refused-is_no_script known read (Err f) e found bad is =
    IfSome_then known found (λ given whole script. bad (script-given read given whole script))
