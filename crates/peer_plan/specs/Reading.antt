-- The reading of a plan from a document: the keys in their order, with the first fault.
use Rattle.std.specs.Prelude.{ℕ, ◌-◌, List, [], ◌∷◌, length, Option, Some, None, Result, Ok, Err, Bool, true, false, is_some}
use Rattle.std.specs.Prelude.{pos, nat_le, nat_eq, ◌==◌, ◌&&◌, ◌||◌, if◌then◌else◌, ok_or, option_map, option_and_then, position}
use Rattle.std.specs.Prelude.{replicate}
use Rattle.std.specs.List.{list_all, list_any}
use Rattle.std.specs.Option.{option_eq}
use Rattle.std.specs.Str.{is_utf8, bytes_eq}
use Rattle.toml.specs.Data.{Data, integer, Items, no_items, item, Members, get_member, as_array, as_bool, as_str}
use Rattle.toml.specs.Parse.{parse_document}
use Rattle.call_auth.specs.declared.call_token.CallTokens.{CallTokens}
use Rattle.call_signals.specs.Credential.{is_printable}
use Rattle.call_signals.specs.declared.format.Format.TheVariants.{Gsm, Ulaw, Alaw}
use Rattle.call_signals.specs.declared.format.Formats.{Formats}
use Rattle.call_signals.specs.declared.rules.PeerRules.{PeerRules}
use Rattle.peer_plan.specs.declared.key.Key.TheVariants as key
use Rattle.peer_plan.specs.declared.error.PlanError.{PlanError}
use Rattle.peer_plan.specs.declared.error.PlanError.TheVariants as error
use Rattle.peer_plan.specs.declared.endpoint.Endpoint.{Endpoint}
use Rattle.peer_plan.specs.declared.peer.Peer.{Peer}
use Rattle.peer_plan.specs.declared.peer.Limits.{Limits}
use Rattle.peer_plan.specs.declared.peer.Credentials.{Credentials}
use Rattle.peer_plan.specs.declared.peer.Media.{Media}
use Rattle.peer_plan.specs.declared.route.Route.{Route}
use Rattle.peer_plan.specs.Address.{address_of}
use Rattle.peer_plan.specs.Fields.{◌>>=◌, number_of, text_of, value, each, list_in}
use Rattle.peer_plan.specs.FormatNames.{format_name}
use Rattle.peer_plan.specs.Keys.{key_name}
use Rattle.peer_plan.specs.UnknownKeys.{known_in}
use Rattle.peer_plan.specs.Plan.{PlanView, is_name, is_prefix}

-- `format`: 1, 2 or 4
abbrev pub is_format : ℕ → Bool
is_format number = (number == 1 || number == 2) || number == 4

abbrev pub plan_format : Data → Option ℕ
plan_format (integer (pos number)) = if is_format number then Some number else None
plan_format _ = None

-- the greatest number of entries of a record, if `record_limit` is absent
abbrev pub default_record_limit : ℕ → ℕ
default_record_limit format = if format == 4 then 65536 else 4096

-- `record_octets`, only in plan version 4: older versions don't limit the data of a record
abbrev pub record_octets_in : ℕ → Members → Result (Option ℕ) PlanError
record_octets_in format ms =
    if format == 4 then (value ms key.RecordOctets (Ok 1048576) (number_of 65536 268435456) >>= λ most. Ok (Some most))
    else Ok None

-- `vnak_ms`, only in plan version 4
abbrev pub vnak_ms_in : ℕ → Members → Result ℕ PlanError
vnak_ms_in format ms = if format == 4 then value ms key.VnakMs (Ok 0) (number_of 0 60000) else Ok 0

-- `trunk_ms`, only in plan version 4: older versions set no time for which media waits for a trunk frame to fill
abbrev pub trunk_ms_in : ℕ → Members → Result (Option ℕ) PlanError
trunk_ms_in format ms = if format == 4 then (value ms key.TrunkMs (Ok 20) (number_of 0 60) >>= λ wait. Ok (Some wait))
    else Ok None

-- `challenge_ms`, only in plan version 4: older versions don't limit the wait for the answer to a challenge
abbrev pub challenge_ms_in : ℕ → Members → Result (Option ℕ) PlanError
challenge_ms_in format ms =
    if format == 4 then (value ms key.ChallengeMs (Ok 10000) (number_of 1000 60000) >>= λ wait. Ok (Some wait)) else Ok None

-- `retry_ms`, `max_retries`, `ping_ms`, `record_limit`, `record_octets`, `vnak_ms`, `trunk_ms`, `challenge_ms`
unfoldable pub limits_in : ℕ → Members → Result Limits PlanError
limits_in format ms = do
  retry_ms ← value ms key.RetryMs (Ok 1000) (number_of 1 60000)
  max_retries ← value ms key.MaxRetries (Ok 4) (number_of 0 20)
  ping_ms ← value ms key.PingMs (Ok 20000) (number_of 0 600000)
  record_limit ← value ms key.RecordLimit (Ok (default_record_limit format)) (number_of 64 65536)
  record_octets ← record_octets_in format ms
  vnak_ms ← vnak_ms_in format ms
  trunk_ms ← trunk_ms_in format ms
  challenge_ms ← challenge_ms_in format ms
  Ok (record {
    retry_ms = retry_ms;
    max_retries = max_retries;
    ping_ms = ping_ms;
    record_limit = record_limit;
    record_octets = record_octets;
    vnak_ms = vnak_ms;
    trunk_ms = trunk_ms;
    challenge_ms = challenge_ms;
  })

-- `address`, `port`
abbrev pub address_in : Data → Option (List ℕ)
address_in d = option_and_then address_of (as_str d)

unfoldable pub endpoint_in : Members → Result Endpoint PlanError
endpoint_in ms = do
  address ← value ms key.Address (Err (error.Missing key.Address)) address_in
  port ← value ms key.Port (Err (error.Missing key.Port)) (number_of 1 65535)
  Ok (record { address = address; port = port })

-- `[[worker]]`
unfoldable pub workers_in : Members → Result (List Endpoint) PlanError
workers_in ms = list_in ms key.Worker 8 >>= each key.Worker (λ _. endpoint_in) []

-- `passes`: as many as workers, unless the plan says more
abbrev pub passes_in : ℕ → Members → Result ℕ PlanError
passes_in workers ms = value ms key.Passes (Ok workers) (number_of workers 64)

-- `user`, `secret`, `outbound_secret`: a secret of either direction needs a user
abbrev pub is_credential : List ℕ → Bool
is_credential text = (nat_le 1 (length text) && nat_le (length text) 64) && list_all is_printable text

abbrev pub credential_in : Data → Option (Option (List ℕ))
credential_in d = option_map Some (text_of is_credential d)

-- whether a table has a secret; that of the other direction is a key only of plan version 4
abbrev pub has_secret : ℕ → Members → Bool
has_secret format ms =
    is_some (get_member (key_name key.Secret) ms) || (format == 4 && is_some (get_member (key_name key.OutboundSecret) ms))

-- the user if it is absent
abbrev pub absent_user : ℕ → Members → Result (Option (List ℕ)) PlanError
absent_user format ms = if has_secret format ms then Err (error.Missing key.User) else Ok None

-- `outbound_secret`, only in plan version 4: without it, one secret serves both directions
abbrev pub outbound_secret_in : ℕ → Option (List ℕ) → Members → Result (Option (List ℕ)) PlanError
outbound_secret_in format secret ms = if format == 4 then value ms key.OutboundSecret (Ok secret) credential_in else Ok secret

unfoldable pub credentials_in : ℕ → Members → Result Credentials PlanError
credentials_in format ms = do
  user ← value ms key.User (absent_user format ms) credential_in
  secret ← value ms key.Secret (Ok None) credential_in
  outbound_secret ← outbound_secret_in format secret ms
  Ok (record { user = user; secret = secret; outbound_secret = outbound_secret })

-- `formats`: names of formats, at least one, in any order
abbrev pub with_format : Formats → List ℕ → Option Formats
with_format formats name =
    if bytes_eq name (format_name Gsm) then Some (record formats { gsm = true })
    else if bytes_eq name (format_name Ulaw) then Some (record formats { ulaw = true })
    else if bytes_eq name (format_name Alaw) then Some (record formats { alaw = true })
    else None

abbrev pub with_format_in : Formats → Data → Option Formats
with_format_in formats d = option_and_then (with_format formats) (as_str d)

unfoldable pub formats_after : Option Formats → Items → Option Formats
formats_after formats no_items = formats
formats_after formats (item d ds) = formats_after (option_and_then (λ found. with_format_in found d) formats) ds

abbrev pub no_formats : Formats
no_formats = record { gsm = false; ulaw = false; alaw = false }

abbrev pub formats_from : Items → Option Formats
formats_from no_items = None
formats_from (item d ds) = formats_after (Some no_formats) (item d ds)

abbrev pub formats_in : Data → Option Formats
formats_in d = option_and_then formats_from (as_array d)

-- `formats`, `trunk`, `trunk_timestamps`
unfoldable pub media_in : Members → Result Media PlanError
media_in ms = do
  formats ← value ms key.Formats (Err (error.Missing key.Formats)) formats_in
  trunk ← value ms key.Trunk (Ok false) as_bool
  trunk_timestamps ← value ms key.TrunkTimestamps (Ok false) as_bool
  Ok (record { formats = formats; trunk = trunk; trunk_timestamps = trunk_timestamps })

-- `window`, from plan version 2 on
abbrev pub window_in : ℕ → Members → Result ℕ PlanError
window_in format ms = if nat_le 2 format then value ms key.Window (Ok 64) (number_of 1 127) else Ok 64

-- `poke`, only in plan version 4
abbrev pub poke_in : ℕ → Members → Result Bool PlanError
poke_in format ms = if format == 4 then value ms key.Poke (Ok true) as_bool else Ok false

-- the source of an endpoint's call tokens, if they are required
abbrev pub tokens_if : Bool → Endpoint → Option CallTokens
tokens_if true endpoint = Some (record { key = replicate 32 0; address = endpoint.address; port = endpoint.port })
tokens_if false endpoint = None

-- `call_token`, only in plan version 4. The key isn't in the plan: it is drawn when the exchange is opened.
abbrev pub call_tokens_in : ℕ → Endpoint → Members → Result (Option CallTokens) PlanError
call_tokens_in format endpoint ms =
    if format == 4 then (value ms key.CallToken (Ok false) as_bool >>= λ asked. Ok (tokens_if asked endpoint)) else Ok None

-- `qualify_ms`, in format 4 alone: in the formats before it no peer is asked whether it is there
abbrev pub qualify_ms_in : ℕ → Members → Result ℕ PlanError
qualify_ms_in format ms = if format == 4 then value ms key.QualifyMs (Ok 60000) (number_of 0 600000) else Ok 0

-- Only in plan version 4 the caller and the cause of a call's end are carried on. Only there a call's format is chosen when
-- it is routed, and legs are hardened. The prefix of challenges isn't in the plan: it is drawn when the exchange is opened.
abbrev pub rules_from : ℕ → Limits → Credentials → Media → ℕ → Bool → Option CallTokens → ℕ → PeerRules
rules_from format limits credentials media window poke call_tokens qualify_ms =
    record {
      user = credentials.user;
      secret = credentials.secret;
      outbound_secret = credentials.outbound_secret;
      challenge_prefix = None;
      call_tokens = call_tokens;
      challenge_ms = limits.challenge_ms;
      formats = media.formats;
      trunk = media.trunk;
      trunk_timestamps = media.trunk_timestamps;
      trunk_ms = limits.trunk_ms;
      retry_ms = limits.retry_ms;
      max_retries = limits.max_retries;
      ping_ms = limits.ping_ms;
      record_limit = limits.record_limit;
      record_octets = limits.record_octets;
      window = window;
      vnak_ms = limits.vnak_ms;
      poke = poke;
      qualify_ms = qualify_ms;
      poke_offset = 0;
      carries_caller = format == 4;
      carries_cause = format == 4;
      routes_format = format == 4;
      is_hardened = format == 4;
    }

unfoldable pub peer_in : ℕ → Limits → ℕ → Members → Result Peer PlanError
peer_in format limits workers ms = do
  name ← value ms key.Name (Err (error.Missing key.Name)) (text_of is_name)
  endpoint ← endpoint_in ms
  worker ← value ms key.Worker (Err (error.Missing key.Worker)) (number_of 0 (workers - 1))
  credentials ← credentials_in format ms
  media ← media_in ms
  numbers ← value ms key.Numbers (Ok 64) (number_of 1 512)
  window ← window_in format ms
  poke ← poke_in format ms
  call_tokens ← call_tokens_in format endpoint ms
  qualify_ms ← qualify_ms_in format ms
  Ok (record {
    name = name;
    endpoint = endpoint;
    worker = worker;
    rules = rules_from format limits credentials media window poke call_tokens qualify_ms;
    numbers = numbers;
  })

-- whether two of a list are the same by a test
abbrev pub has_double : {A : Type 0} → (A → A → Bool) → List A → Bool
has_double same [] = false
has_double same (x ∷ xs) = if list_any (λ other. same other x) xs then true else has_double same xs

abbrev pub is_named : List ℕ → Peer → Bool
is_named name peer = bytes_eq peer.name name

abbrev pub is_endpoint : Endpoint → Endpoint → Bool
is_endpoint a b = bytes_eq a.address b.address && a.port == b.port

abbrev pub has_same_name : List Peer → Bool
has_same_name peers = has_double (λ other peer. is_named peer.name other) peers

abbrev pub has_same_endpoint : List Peer → Bool
has_same_endpoint peers = has_double (λ other peer. is_endpoint other.endpoint peer.endpoint) peers

abbrev pub told_apart : List Peer → Result (List Peer) PlanError
told_apart peers =
    if has_same_name peers then Err error.SameName
    else if has_same_endpoint peers then Err error.SameEndpoint
    else Ok peers

-- `[[peer]]`
unfoldable pub peers_in : ℕ → Limits → ℕ → Members → Result (List Peer) PlanError
peers_in format limits workers ms = do
  tables ← list_in ms key.Peer 32
  peers ← each key.Peer (λ _. peer_in format limits workers) [] tables
  told_apart peers

-- the place of the peer of a name
abbrev pub peer_named : List Peer → List ℕ → Result ℕ PlanError
peer_named peers name = ok_or (position (is_named name) peers) error.UnknownPeer

-- `source`, only in plan version 4
unfoldable pub source_at : List Peer → Option Data → Result (Option ℕ) PlanError
source_at peers None = Ok None
source_at peers (Some d) = do
  name ← ok_or (as_str d) (error.Range key.Source)
  source ← peer_named peers name
  Ok (Some source)

abbrev pub source_in : ℕ → List Peer → Members → Result (Option ℕ) PlanError
source_in format peers ms = if format == 4 then source_at peers (get_member (key_name key.Source) ms) else Ok None

-- whether a route has this prefix and this source
abbrev pub is_way : List ℕ → Option ℕ → Route → Bool
is_way prefix source route = bytes_eq route.prefix prefix && option_eq nat_eq route.source source

abbrev pub has_way : List ℕ → Option ℕ → List Route → Bool
has_way prefix source routes = list_any (is_way prefix source) routes

-- whether two routes have one prefix and one source
abbrev pub has_same_way : List Route → Bool
has_same_way routes = has_double (λ other route. is_way other.prefix other.source route) routes

abbrev pub new_route : List Route → List ℕ → Option ℕ → ℕ → Result Route PlanError
new_route before prefix source peer =
    if has_way prefix source before then Err error.SameRoute
    else Ok (record { prefix = prefix; source = source; peer = peer })

unfoldable pub route_in : ℕ → List Peer → List Route → Members → Result Route PlanError
route_in format peers before ms = do
  prefix ← value ms key.Prefix (Err (error.Missing key.Prefix)) (text_of is_prefix)
  name ← value ms key.Peer (Err (error.Missing key.Peer)) as_str
  peer ← peer_named peers name
  source ← source_in format peers ms
  new_route before prefix source peer

-- `[[route]]`, which may be absent
unfoldable pub routes_in : ℕ → List Peer → Members → Result (List Route) PlanError
routes_in format peers ms = value ms key.Route (Ok no_items) as_array >>= each key.Route (route_in format peers) []

-- Only in plan version 4 a route for the calls of all isn't for those of the peer to which it leads.
unfoldable pub plan_in : Members → Result PlanView PlanError
plan_in ms = do
  format ← value ms key.Format (Err (error.Missing key.Format)) plan_format
  limits ← limits_in format ms
  workers ← workers_in ms
  passes ← passes_in (length workers) ms
  peers ← peers_in format limits (length workers) ms
  routes ← routes_in format peers ms
  known ← known_in format ms
  Ok (record { workers = workers; passes = passes; peers = peers; routes = routes; avoids_return = format == 4 })

-- the table that toml reads from the text, if it reads one
abbrev pub document_of : List ℕ → Option Members
document_of text = if is_utf8 text then parse_document text else None

-- the plan of a text, or its first fault
abbrev pub plan_of : List ℕ → Result PlanView PlanError
plan_of text = ok_or (document_of text) error.NotToml >>= plan_in
