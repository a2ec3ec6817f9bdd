-- "MD5 RESULT"
use Rattle.std.specs.Prelude.{List, ℕ, ◌++◌}
use Rattle.md5.specs.Md5.{md5}
use Rattle.hex.specs.Hex.{encode_lower}

-- the MD5 digest (RFC 1321) of the challenge followed by the secret, in lower-case hexadecimal digits
abbrev pub md5_answer : List ℕ → List ℕ → List ℕ
md5_answer challenge secret = encode_lower (md5 (challenge ++ secret))
