-- The values of options.
use Rattle.std.specs.Prelude.{◌≡◌, ◌⊎◌, ◌*◌, ℕ, List, Option, None, Some, Result, codes}
use Rattle.std.specs.Option.{option_map_or, unwrap_or}
use Rattle.clap.specs.Words.{ReadsOne, one_text}
use Rattle.clap.specs.declared.parser.matches.Found.{Found}
use Rattle.flash_site.specs.declared.source.TheConstants.{PRELOAD_BYTES}
use Rattle.iol_reactor.specs.declared.limits.Limits.{Limits}
use Rattle.iol_reactor.specs.declared.limits.TheConstants.Limits.{DEFAULT}

-- The value of an option that has this text, if any, as its type reads texts: none if there is no text, or it is not
-- that of a value.
abbrev pub ReadsText : {T E : Type 0} → (reads : List ℕ → Result T E → Type 0) → Option (List ℕ) → Option T → Type 0
ReadsText reads None value = value ≡ None
ReadsText reads (Some text) value = ReadsOne reads text value

-- A flag was given, or it was not.
abbrev pub IsGiven : (found : Found) → (flag : List ℕ) → Type 0
IsGiven found flag = one_text found flag ≡ Some (codes "true")

abbrev pub IsOmitted : (found : Found) → (flag : List ℕ) → Type 0
IsOmitted found flag = (one_text found flag ≡ None) ⊎ (one_text found flag ≡ Some (codes "false"))

-- The number of bytes that may be read into memory.
abbrev pub SetsPreload : {E : Type 0} → (reads : List ℕ → Result ℕ E → Type 0) → Found → (preload : Option ℕ) → Type 0
SetsPreload reads found preload =
    (bytes : Option ℕ) × ReadsText reads (one_text found (codes "preload-limit")) bytes
    × (preload ≡ Some (unwrap_or bytes PRELOAD_BYTES))

-- The limits that the options set, as numbers are read. Times are given in seconds.
pub record SetsLimits {E : Type 0} (reads : List ℕ → Result ℕ E → Type 0) (found : Found) (limits : Limits) : Type 0
  where
    pub stops : ReadsText reads (one_text found (codes "stop-after")) limits.stop_after
    pub clients : (count : Option ℕ) × ReadsText reads (one_text found (codes "max-clients")) count
        × (limits.max_clients ≡ unwrap_or count DEFAULT.max_clients)
    pub idle : (seconds : Option ℕ) × ReadsText reads (one_text found (codes "idle-timeout")) seconds
        × (limits.idle_millis ≡ option_map_or (λ n. n * 1000) seconds DEFAULT.idle_millis)
    pub heads : (seconds : Option ℕ) × ReadsText reads (one_text found (codes "request-timeout")) seconds
        × (limits.head_millis ≡ option_map_or (λ n. n * 1000) seconds DEFAULT.head_millis)
    pub rate : (bytes : Option ℕ) × ReadsText reads (one_text found (codes "min-rate")) bytes
        × (limits.min_rate ≡ unwrap_or bytes DEFAULT.min_rate)
    pub retires : (seconds : Option ℕ) × ReadsText reads (one_text found (codes "retire-timeout")) seconds
        × (limits.retire_millis ≡ option_map_or (λ n. n * 1000) seconds DEFAULT.retire_millis)
    -- all others are the default ones
    pub others : limits ≡ record DEFAULT {
      stop_after = limits.stop_after;
      max_clients = limits.max_clients;
      idle_millis = limits.idle_millis;
      head_millis = limits.head_millis;
      min_rate = limits.min_rate;
      retire_millis = limits.retire_millis;
    }
