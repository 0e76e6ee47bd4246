-- The calls in a script's lines: their names and arguments.
use Rattle.std.specs.Prelude.{◌≡◌, ◌≤◌, ◌*◌, ℕ, List, [], ◌∷◌, ◌⊎◌, All, Option, Some, None, length, map, codes}
use Rattle.std.specs.Prelude.{bytes_eq, ◌==◌, ⊤, if◌then◌else◌}
use Rattle.std.specs.List.{repeat, slice_split}
use Rattle.iol_core.specs.declared.descriptors.Mode.{Mode}
use Rattle.iol_core.specs.declared.descriptors.Mode.TheVariants as mode
use Rattle.iol_core.specs.declared.events.Call.{Call}
use Rattle.iol_core.specs.declared.events.Call.TheVariants as call
use Rattle.percent_encoding.specs.Percent.{percent_decode as decoded}
use Rattle.iolite.specs.declared.calls.CallLine.{CallLine}
use Rattle.iolite.specs.declared.calls.CallLine.TheVariants as line
use Rattle.iolite.specs.declared.names.AggregateCall.{AggregateCall}
use Rattle.iolite.specs.declared.names.AggregateCall.TheVariants.{AggDup, AggDrop, Show}
use Rattle.iolite.specs.declared.names.CallName.{CallName}
use Rattle.iolite.specs.declared.names.CallName.TheVariants as name
use Rattle.iolite.specs.declared.names.NumberCall.{NumberCall}
use Rattle.iolite.specs.declared.names.NumberCall.TheVariants.{PoolClose, SetPool, Close, Length, Fsync}
use Rattle.iolite.specs.declared.names.PairCall.{PairCall}
use Rattle.iolite.specs.declared.names.PairCall.TheVariants.{PoolAdmit, GiveFd, Seek, IolRead, Read}
use Rattle.iolite.specs.declared.names.PartCall.{PartCall}
use Rattle.iolite.specs.declared.names.PartCall.TheVariants.{AggSplit, AggGive}
use Rattle.iolite.specs.declared.words.TheConstants.{MAX_REPEATED_BYTES}
use Rattle.iolite.specs.Words.{IsLong, IsShort, rest_of, value, word}

-- the access mode of a file
abbrev pub mode_word : Mode → List ℕ
mode_word mode.Read = codes "read"
mode_word mode.Write = codes "write"
mode_word mode.Both = codes "both"

-- a list of domain numbers, separated by commas
abbrev pub parts_of : List ℕ → List (List ℕ)
parts_of w = slice_split (λ b. b == 44) w

abbrev pub AreDomains : List ℕ → Type 0
AreDomains w = All IsShort (parts_of w)

abbrev pub domains_of : List ℕ → List ℕ
domains_of w = map value (parts_of w)

-- the call of each name, with its numbers
abbrev pub of_number : NumberCall → ℕ → Call
of_number PoolClose n = call.PoolClose n
of_number SetPool n = call.SetPool n
of_number Close n = call.Close n
of_number Length n = call.Length n
of_number Fsync n = call.Fsync n

abbrev pub of_aggregate : AggregateCall → ℕ → Call
of_aggregate AggDup agg = call.AggDup agg
of_aggregate AggDrop agg = call.AggDrop agg
of_aggregate Show agg = call.Show agg

abbrev pub of_pair : PairCall → ℕ → ℕ → Call
of_pair PoolAdmit pool domain = call.PoolAdmit pool domain
of_pair GiveFd fd domain = call.GiveFd fd domain
of_pair Seek fd at = call.Seek fd at
of_pair IolRead fd count = call.IolRead fd count
of_pair Read fd count = call.Read fd count

abbrev pub of_part : PartCall → ℕ → ℕ → Call
of_part AggSplit agg at = call.AggSplit agg at
of_part AggGive agg domain = call.AggGive agg domain

-- all names, in the spelling of a line
abbrev pub names : List (List ℕ × CallName)
names =
    (codes "pool_close", name.Number PoolClose)
    ∷ (codes "set_pool", name.Number SetPool)
    ∷ (codes "close", name.Number Close)
    ∷ (codes "length", name.Number Length)
    ∷ (codes "fsync", name.Number Fsync)
    ∷ (codes "agg_dup", name.Aggregate AggDup)
    ∷ (codes "agg_drop", name.Aggregate AggDrop)
    ∷ (codes "show", name.Aggregate Show)
    ∷ (codes "pool_admit", name.Pair PoolAdmit)
    ∷ (codes "give_fd", name.Pair GiveFd)
    ∷ (codes "seek", name.Pair Seek)
    ∷ (codes "iol_read", name.Pair IolRead)
    ∷ (codes "read", name.Pair Read)
    ∷ (codes "agg_split", name.Part AggSplit)
    ∷ (codes "agg_give", name.Part AggGive)
    ∷ (codes "agg_join", name.AggJoin)
    ∷ (codes "iol_write", name.IolWrite)
    ∷ (codes "agg_cut", name.AggCut)
    ∷ (codes "agg_replace", name.AggReplace)
    ∷ (codes "pool_create", name.PoolCreate)
    ∷ (codes "agg_make", name.AggMake)
    ∷ (codes "agg_fill", name.AggFill)
    ∷ (codes "write", name.Write)
    ∷ (codes "file_new", name.FileNew)
    ∷ (codes "open_file", name.OpenFile)
    ∷ []

-- the call name of a word: the first whose text equals it
abbrev pub named_in : List (List ℕ × CallName) → List ℕ → Option CallName
named_in [] w = None
named_in (x ∷ xs) w = if bytes_eq w x.0 then Some x.1 else named_in xs w

abbrev pub named : List ℕ → Option CallName
named w = named_in names w

-- The call of a name and its arguments. An aggregate's number has 64 bits, all others 32.
abbrev pub IsCalled : CallName → (rest : List ℕ) → Call → Type 0
IsCalled (name.Number n) rest c = IsShort rest × (c ≡ of_number n (value rest))
IsCalled (name.Aggregate n) rest c = IsLong rest × (c ≡ of_aggregate n (value rest))
IsCalled (name.Pair n) rest c = IsShort (word rest) × IsShort (rest_of rest)
    × (c ≡ of_pair n (value (word rest)) (value (rest_of rest)))
IsCalled (name.Part n) rest c = IsLong (word rest) × IsShort (rest_of rest)
    × (c ≡ of_part n (value (word rest)) (value (rest_of rest)))
IsCalled name.AggJoin rest c = IsLong (word rest) × IsLong (rest_of rest)
    × (c ≡ call.AggJoin (value (word rest)) (value (rest_of rest)))
IsCalled name.IolWrite rest c = IsShort (word rest) × IsLong (rest_of rest)
    × (c ≡ call.IolWrite (value (word rest)) (value (rest_of rest)))
IsCalled name.AggCut rest c =
    let range = rest_of rest in
    IsLong (word rest) × IsShort (word range) × IsShort (rest_of range)
    × (c ≡ call.AggCut (value (word rest)) (value (word range)) (value (rest_of range)))
IsCalled name.AggReplace rest c =
    let range = rest_of rest in
    let last = rest_of range in
    IsLong (word rest) × IsShort (word range) × IsShort (word last) × IsLong (rest_of last)
    × (c ≡ call.AggReplace (value (word rest)) (value (word range)) (value (word last)) (value (rest_of last)))
IsCalled name.PoolCreate rest c =
    IsShort (word rest) × AreDomains (rest_of rest)
    × (c ≡ call.PoolCreate (value (word rest)) (domains_of (rest_of rest)))
IsCalled name.AggMake rest c = c ≡ call.AggMake (decoded rest)
IsCalled name.AggFill rest c =
    let text = decoded (rest_of rest) in
    IsShort (word rest) × (value (word rest) * length text ≤ MAX_REPEATED_BYTES)
    × (c ≡ call.AggMake (repeat (value (word rest)) text))
IsCalled name.Write rest c = IsShort (word rest) × (c ≡ call.Write (value (word rest)) (decoded (rest_of rest)))
IsCalled name.FileNew rest c = IsShort (rest_of rest) × (c ≡ call.FileNew (decoded (word rest)) (value (rest_of rest)))
IsCalled name.OpenFile rest c = (m : Mode) × (rest_of rest ≡ mode_word m) × (c ≡ call.OpenFile (decoded (word rest)) m)

-- a call without arguments
abbrev pub IsBare : List ℕ → Call → Type 0
IsBare text c =
    ((text ≡ codes "domain_new") × (c ≡ call.DomainNew))
    ⊎ (((text ≡ codes "exit") × (c ≡ call.Exit))
    ⊎ (((text ≡ codes "pipe") × (c ≡ call.Pipe))
    ⊎ ((text ≡ codes "accept") × (c ≡ call.Accept))))

-- a call with arguments
abbrev pub IsNamed : List ℕ → Call → Type 0
IsNamed text c = (n : CallName) × (named (word text) ≡ Some n) × IsCalled n (rest_of text) c

-- the call that a text represents
abbrev pub IsCall : List ℕ → Call → Type 0
IsCall text c = IsBare text c ⊎ IsNamed text c

-- the call of a parsed line whose texts are still encoded
abbrev pub call_of : CallLine → Call
call_of (line.Whole c) = c
call_of (line.PoolCreate chunks domains) = call.PoolCreate chunks (domains_of domains.now)
call_of (line.AggMake text) = call.AggMake (decoded text.now)
call_of (line.AggFill count text) = call.AggMake (repeat count (decoded text.now))
call_of (line.Write fd text) = call.Write fd (decoded text.now)
call_of (line.FileNew file pool) = call.FileNew (decoded file.now) pool
call_of (line.OpenFile file m) = call.OpenFile (decoded file.now) m

-- the condition under which a line's texts can be decoded
abbrev pub CanBeMade : CallLine → Type 0
CanBeMade (line.PoolCreate chunks domains) = AreDomains domains.now
CanBeMade other = ⊤
