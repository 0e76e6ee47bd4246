-- Chunks: examples.
use Rattle.std.proofs.Common.{◌≡◌, [], ◌∷◌, refl}
use Rattle.std.specs.Prelude.{codes}
use Rattle.std.specs.Fmt.{digits}
use Rattle.flash_http.specs.declared.chunks.TheConstants.{CHUNK_END, LAST_CHUNK}
use Rattle.flash_http.specs.Chunk.{chunk_head, chunk_end, last_chunk, chunked_body}

size_of_4096 : chunk_head 4096 ≡ codes "1000\r\n"
unfolding digits
size_of_4096 = refl

two_pieces : chunked_body (codes "a\nq=1\n" ∷ codes "x" ∷ []) ≡ codes "6\r\na\nq=1\n\r\n1\r\nx\r\n0\r\n\r\n"
unfolding digits
two_pieces = refl

no_bytes : chunked_body [] ≡ codes "0\r\n\r\n"
no_bytes = refl

-- the constants of the crate are the texts of the definitions
constants : (CHUNK_END.now ≡ chunk_end) × (LAST_CHUNK.now ≡ last_chunk)
constants = (refl, refl)
