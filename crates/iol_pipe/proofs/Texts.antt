-- The texts of a queue, of the bytes added and of its front, for any arena.
use Rattle.std.proofs.Common.{◌≡◌, ℕ, List, ◌++◌, length, take, drop}
use Rattle.std.specs.List.{take_while, prefix_len, slice_get}
use Rattle.std.specs.Option.{option_map}
use Rattle.std.proofs.lemmas.List.Elements.{All-append, All-take, All-same}
use Rattle.iol_core.specs.Text.{admitted}
use Rattle.iol_hold.specs.StoreState.{Stored}
use Rattle.iol_pool.specs.Pools.{Pool, names_in}
use Rattle.iol_hold.specs.declared.slices.Slice.{Slice}
use Rattle.iol_hold.specs.Places.{places, byte_len}
use Rattle.iol_hold.specs.Texts.{byte_at, text_of, IsThere, AllReadable}
use Rattle.iol_hold.proofs.AtPlaces.{read_pushed, keeps_bytes}
use Rattle.iol_pipe.specs.Queue.{first_pool, may_see}
use Rattle.iol_pipe.proofs.FrontBytes.{read_given, read_left, first_pool-read}

pub readable_pushed : {s : Stored} (new old from : List Slice) (n : ℕ) → places new ≡ places old ++ take n (places from)
    → AllReadable s old → AllReadable s from → AllReadable s new
readable_pushed {s} new old from n e h k = record {
  each =
      All-same (IsThere s) _ _ e
      (All-append (IsThere s) (places old) (take n (places from)) h.each (All-take (IsThere s) n (places from) k.each));
}

pub text_pushed : (s : Stored) (new old from : List Slice) (n : ℕ) → places new ≡ places old ++ take n (places from)
    → text_of s new ≡ text_of s old ++ take n (text_of s from)
text_pushed s new old from n e = read_pushed (byte_at s) new old from n e

pub readable_given : {s : Stored} (given old : List Slice) (ps : List Pool) (d : ℕ) (n : ℕ)
    → places given ≡ take_while (may_see ps d) (take n (places old)) → AllReadable s old → AllReadable s given
readable_given {s} given old ps d n e h = record {
  each =
      All-same (IsThere s) _ _ e (All-take (IsThere s) (prefix_len (may_see ps d) (take n (places old)))
      (take n (places old)) (All-take (IsThere s) n (places old) h.each));
}

pub text_given : (s : Stored) (given old : List Slice) (ps : List Pool) (d : ℕ) (n : ℕ)
    → places given ≡ take_while (may_see ps d) (take n (places old))
    → text_of s given ≡ admitted (λ p. names_in ps p d) (take n (text_of s old))
text_given s given old ps d n e = read_given (byte_at s) (keeps_bytes s) given old ps d n e

-- the text left after the front
pub text_left : (s : Stored) (given new old : List Slice) (ps : List Pool) (d : ℕ) (n : ℕ)
    → places given ≡ take_while (may_see ps d) (take n (places old)) → places new ≡ drop (byte_len given) (places old)
    → text_of s new ≡ drop (length (admitted (λ p. names_in ps p d) (take n (text_of s old)))) (text_of s old)
text_left s given new old ps d n e rest = read_left (byte_at s) (keeps_bytes s) given new old ps d n e rest

pub first_pool-text : (s : Stored) (xs : List Slice)
    → first_pool xs ≡ option_map (λ b. b.1) (slice_get (text_of s xs) 0)
first_pool-text s xs = first_pool-read (byte_at s) (keeps_bytes s) xs
