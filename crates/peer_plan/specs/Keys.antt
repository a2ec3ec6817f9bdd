-- The keys of a plan, in their order.
use Rattle.std.specs.Prelude.{ℕ, List, [], ◌∷◌, Bool, ◌||◌, ◌&&◌, ◌==◌, nat_le, codes}
use Rattle.std.specs.List.{list_any}
use Rattle.std.specs.Str.{bytes_eq}
use Rattle.peer_plan.specs.declared.key.Key.{Key}
use Rattle.peer_plan.specs.declared.key.Key.TheVariants as key
use Rattle.peer_plan.specs.declared.key.Section.{Section}
use Rattle.peer_plan.specs.declared.key.Section.TheVariants as section

-- the name of a key as the text of a plan has it
abbrev pub key_name : Key → List ℕ
key_name key.Format = codes "format"
key_name key.RetryMs = codes "retry_ms"
key_name key.MaxRetries = codes "max_retries"
key_name key.PingMs = codes "ping_ms"
key_name key.RecordLimit = codes "record_limit"
key_name key.RecordOctets = codes "record_octets"
key_name key.VnakMs = codes "vnak_ms"
key_name key.TrunkMs = codes "trunk_ms"
key_name key.ChallengeMs = codes "challenge_ms"
key_name key.Worker = codes "worker"
key_name key.Address = codes "address"
key_name key.Port = codes "port"
key_name key.Passes = codes "passes"
key_name key.Peer = codes "peer"
key_name key.Name = codes "name"
key_name key.User = codes "user"
key_name key.Secret = codes "secret"
key_name key.OutboundSecret = codes "outbound_secret"
key_name key.Formats = codes "formats"
key_name key.Trunk = codes "trunk"
key_name key.TrunkTimestamps = codes "trunk_timestamps"
key_name key.Numbers = codes "numbers"
key_name key.Window = codes "window"
key_name key.Poke = codes "poke"
key_name key.CallToken = codes "call_token"
key_name key.QualifyMs = codes "qualify_ms"
key_name key.Route = codes "route"
key_name key.Prefix = codes "prefix"
key_name key.Source = codes "source"

-- one of these keys has the name
abbrev pub is_one_of : List Key → List ℕ → Bool
is_one_of keys name = list_any (λ key. bytes_eq (key_name key) name) keys

-- A table is read at these keys, and at no other.
abbrev pub is_known : Section → ℕ → List ℕ → Bool
is_known section.Plan format name =
    is_one_of (key.Format ∷ key.RetryMs ∷ key.MaxRetries ∷ key.PingMs ∷ key.RecordLimit ∷ key.Worker ∷ key.Passes ∷ key.Peer
    ∷ key.Route ∷ []) name
    || (format == 4 && is_one_of (key.RecordOctets ∷ key.VnakMs ∷ key.TrunkMs ∷ key.ChallengeMs ∷ []) name)
is_known section.Worker format name = is_one_of (key.Address ∷ key.Port ∷ []) name
is_known section.Peer format name =
    is_one_of (key.Name ∷ key.Address ∷ key.Port ∷ key.Worker ∷ key.User ∷ key.Secret ∷ key.Formats ∷ key.Trunk
    ∷ key.TrunkTimestamps ∷ key.Numbers ∷ []) name
    || (nat_le 2 format && bytes_eq (key_name key.Window) name)
    || (format == 4 && is_one_of (key.OutboundSecret ∷ key.Poke ∷ key.CallToken ∷ key.QualifyMs ∷ []) name)
is_known section.Route format name =
    is_one_of (key.Prefix ∷ key.Peer ∷ []) name || (format == 4 && bytes_eq (key_name key.Source) name)
