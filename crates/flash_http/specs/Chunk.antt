-- Chunks: a body of unknown length in pieces (RFC 9112, section 7.1).
use Rattle.std.specs.Prelude.{◌≡◌, ℕ, false, List, [], ◌++◌, length, codes}
use Rattle.std.specs.List.{flat_map}
use Rattle.std.specs.Fmt.{digits}
use Rattle.httparse.specs.Grammar.{ChunkLine, ReadsChunkLine, chunk_size}

-- the size in hexadecimal, and the end of the line
abbrev pub chunk_head : (len : ℕ) → List ℕ
chunk_head len = digits 16 false len ++ codes "\r\n"

abbrev pub chunk_end : List ℕ
chunk_end = codes "\r\n"

-- A chunk.
abbrev pub chunk : (bytes : List ℕ) → List ℕ
chunk bytes = chunk_head (length bytes) ++ (bytes ++ chunk_end)

-- the chunk that ends the body, without trailer
abbrev pub last_chunk : List ℕ
last_chunk = codes "0\r\n\r\n"

-- A body of these pieces.
abbrev pub chunked_body : (pieces : List (List ℕ)) → List ℕ
chunked_body pieces = flat_map chunk pieces ++ last_chunk

-- by the grammar of `httparse`, the line is this size
abbrev pub ReadsAsSize : List ℕ → (len : ℕ) → Type 0
ReadsAsSize line len = (l : ChunkLine) × ReadsChunkLine line l [] × (chunk_size l ≡ len)
