-- Call tokens (chan_iax2's CALLTOKEN; RFC 5456 has none).
use Rattle.std.specs.Prelude.{◌-◌, ◌/◌, ◌++◌, ◌&&◌, ◌||◌, ℕ, Bool, List, bytes_eq, nat_lt, take}
use Rattle.std.specs.Int.{to_be_bytes, w16, w64}
use Rattle.hex.specs.Hex.{encode_lower}
use Rattle.sha2.specs.Sha256.{sha256}
use Rattle.call_auth.specs.declared.call_token.CallTokens.{CallTokens}

-- the text whose digest is a token: the key, the endpoint's address and port, and the number of the period of five seconds
abbrev pub token_text : CallTokens → ℕ → List ℕ
token_text tokens period = ((tokens.key ++ tokens.address) ++ to_be_bytes w16 tokens.port) ++ to_be_bytes w64 period

-- the first half of the SHA-256 digest (FIPS 180-4) of that text, in lower-case hexadecimal digits
abbrev pub call_token : CallTokens → ℕ → List ℕ
call_token tokens period = encode_lower (take 16 (sha256 (token_text tokens period)))

-- the token of the period that a moment belongs to, in milliseconds, or of the period before
abbrev pub is_given : CallTokens → ℕ → List ℕ → Bool
is_given tokens now text =
    bytes_eq text (call_token tokens (now / 5000)) ||
    (nat_lt 0 (now / 5000) && bytes_eq text (call_token tokens (now / 5000 - 1)))
