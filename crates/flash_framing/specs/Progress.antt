-- The progress of a response, by the bytes that an exchange shows.
use Rattle.std.specs.Prelude.{ℕ, ◌+◌, ◌==◌, ◌&&◌, ◌||◌, Bool, List, length, take, nat_le, codes, if◌then◌else◌}
use Rattle.std.specs.List.{ends_with, starts_with}
use Rattle.std.specs.Option.{option_map_or}
use Rattle.flash_log.specs.Head.{content_length, has_line, head_length, request_line}
use Rattle.iol_reactor.specs.declared.service.Exchange.{Exchange}
use Rattle.iol_reactor.specs.declared.service.Progress.{Progress}
use Rattle.iol_reactor.specs.declared.service.Progress.TheVariants.{Complete, Last, Unknown}

-- the method is HEAD, whose response has no body (RFC 9110, section 9.3.2)
abbrev pub asks_head : (request : List ℕ) → Bool
asks_head request = starts_with (λ a b. a == b) (request_line request) (codes "HEAD ")

-- the body ends with its last chunk (RFC 9112, section 7.1)
abbrev pub ends_chunks : (head tail : List ℕ) → Bool
ends_chunks head tail =
    ends_with (λ a b. a == b) tail (codes "\r\n0\r\n\r\n") && has_line head (codes "Transfer-Encoding: chunked")

-- the body after this head is whole, by its length or by its chunks (RFC 9112, section 6.3)
abbrev pub is_whole : (head : List ℕ) → Exchange → Bool
is_whole head e =
    option_map_or (λ count. nat_le (count + length head) e.produced) (content_length head) (ends_chunks head e.tail.now)

-- the progress after this head
abbrev pub progress_after : (head : List ℕ) → Exchange → Progress
progress_after head e =
    if has_line head (codes "Connection: close") then Last
    else if asks_head e.request.now || is_whole head e then Complete
    else Unknown

-- the progress, which is not known before the head is whole
abbrev pub progress_of : Exchange → Progress
progress_of e = option_map_or (λ n. progress_after (take n e.head.now) e) (head_length e.head.now) Unknown
