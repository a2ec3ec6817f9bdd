-- A plan: workers, passes, peers with their numbers, and routes.
use Rattle.std.specs.Prelude.{◌≡◌, ◌≢◌, ◌≤◌, ◌<◌, ℕ, ◌+◌, ◌*◌, List, length, map, Bool, true, not, ◌&&◌, ◌||◌}
use Rattle.std.specs.Prelude.{nat_le, nat_eq, Option, Some, None, is_some, if◌then◌else◌, ◌==◌, slice_index, All}
use Rattle.std.specs.Prelude.{Contains, IfSome, option_map}
use Rattle.std.specs.Char.{is_ascii_alphanumeric}
use Rattle.std.specs.List.{list_all, starts_with, AllPairs}
pub use Rattle.call_book.specs.Ranges.{first_number, total_of}
use Rattle.call_auth.specs.declared.call_token.CallTokens.{CallTokens}
use Rattle.call_signals.specs.PeerRules.{IsPeerRules, IsWithin}
use Rattle.peer_plan.specs.declared.drawn.Drawn.{Drawn}
use Rattle.peer_plan.specs.declared.endpoint.Endpoint.{Endpoint}
use Rattle.peer_plan.specs.declared.peer.Peer.{Peer}
use Rattle.peer_plan.specs.declared.route.Route.{Route}
use Rattle.peer_plan.specs.declared.number_range.NumberRange.{NumberRange}

pub record PlanView : Type 0 where
  -- the endpoint of each worker
  pub workers : List Endpoint
  pub passes : ℕ
  pub peers : List Peer
  pub routes : List Route
  -- a route for the calls of all isn't for those of the peer to which it leads
  pub avoids_return : Bool

-- an ASCII letter, a digit or a dash
abbrev pub is_name_octet : ℕ → Bool
is_name_octet octet = is_ascii_alphanumeric octet || octet == 45

-- 1 to 32 of them
abbrev pub is_name : List ℕ → Bool
is_name text = (nat_le 1 (length text) && nat_le (length text) 32) && list_all is_name_octet text

-- an octet of a prefix: visible ASCII
abbrev pub is_visible : ℕ → Bool
is_visible octet = nat_le 0x21 octet && nat_le octet 0x7e

-- at most 32 of them
abbrev pub is_prefix : List ℕ → Bool
is_prefix text = nat_le (length text) 32 && list_all is_visible text

-- call tokens of this key
abbrev pub with_key : List ℕ → CallTokens → CallTokens
with_key key tokens = record tokens { key = key }

-- the peer of an exchange that drew these values when it was opened
abbrev pub with_drawn : Drawn → Peer → Peer
with_drawn drawn peer =
    record peer {
      rules = record peer.rules {
        challenge_prefix = drawn.challenge_prefix;
        call_tokens = option_map (with_key drawn.token_key) peer.rules.call_tokens;
        poke_offset = drawn.poke_offset;
      };
    }

-- ---- numbers

-- the count of each peer's numbers
abbrev pub counts_of : List Peer → List ℕ
counts_of peers = map (λ peer. peer.numbers) peers

-- The numbers of a peer: those that the book of names gives out for it.
abbrev pub range_of : List ℕ → ℕ → NumberRange
range_of counts peer = record { first = first_number counts peer; count = slice_index counts peer }

abbrev pub IsInRange : NumberRange → ℕ → Type 0
IsInRange range number = (range.first ≤ number) × (number < range.first + range.count)

-- ---- routes

-- a route's prefix begins the text
abbrev pub begins : List ℕ → Route → Bool
begins text route = starts_with nat_eq text route.prefix

-- The calls of a peer may take a route that leads to a target: one with a source, if that is the caller, also back to it.
-- One without a source is for the calls of all, but, where returns are avoided, not for those of its target.
abbrev pub is_for : Bool → ℕ → ℕ → Option ℕ → Bool
is_for avoids_return caller target None = not (avoids_return && target == caller)
is_for avoids_return caller target (Some source) = source == caller

abbrev pub is_open_to : Bool → ℕ → Route → Bool
is_open_to avoids_return caller route = is_for avoids_return caller route.peer route.source

-- a call of a peer to the number fits a route
unfoldable pub fits : Bool → ℕ → List ℕ → Route → Bool
fits avoids_return caller text route = begins text route && is_open_to avoids_return caller route

-- of the routes whose prefix begins the text, this is the one with the longest prefix
pub record IsLongest (routes : List Route) (text : List ℕ) (route : Route) : Type 0 where
  pub listed : Contains routes route
  pub starts : begins text route ≡ true
  pub longest : All (λ other. begins text other ≡ true → length other.prefix ≤ length route.prefix) routes

-- the nearness of a route: one with a longer prefix is nearer, and of two of one length one with a source
abbrev pub nearness : Route → ℕ
nearness route = 2 * length route.prefix + (if is_some route.source then 1 else 0)

-- of the routes that a call fits, this is the nearest
pub record IsNearest (avoids_return : Bool) (routes : List Route) (caller : ℕ) (text : List ℕ) (route : Route) : Type 0 where
  pub listed : Contains routes route
  pub fitting : fits avoids_return caller text route ≡ true
  pub nearest : All (λ other. fits avoids_return caller text other ≡ true → nearness other ≤ nearness route) routes

-- ---- properties of every plan

pub record IsPeer (workers : ℕ) (peer : Peer) : Type 0 where
  pub name : is_name peer.name ≡ true
  pub port : IsWithin 1 65535 peer.endpoint.port
  pub worker : peer.worker < workers
  pub rules : IsPeerRules peer.rules
  pub numbers : IsWithin 1 512 peer.numbers

pub record IsRoute (peers : ℕ) (route : Route) : Type 0 where
  pub prefix : is_prefix route.prefix ≡ true
  pub source : IfSome route.source (λ source. source < peers)
  pub peer : route.peer < peers

-- two routes are not for the same calls
abbrev pub AreApart : Route → Route → Type 0
AreApart route other = route.prefix ≡ other.prefix → route.source ≢ other.source

pub record IsPlan (plan : PlanView) : Type 0 where
  pub workers : IsWithin 1 8 (length plan.workers)
  pub passes : IsWithin (length plan.workers) 64 plan.passes
  pub peer_count : IsWithin 1 32 (length plan.peers)
  pub peers : All (IsPeer (length plan.workers)) plan.peers
  pub routes : All (IsRoute (length plan.peers)) plan.routes
  -- no two peers have one name or one endpoint, and no two routes one prefix and one source
  pub names : AllPairs (λ peer other. peer.name ≢ other.name) plan.peers
  pub endpoints : AllPairs (λ peer other. peer.endpoint ≢ other.endpoint) plan.peers
  pub ways : AllPairs AreApart plan.routes
  -- the ranges are disjoint, and within 1 ..= 16,384
  pub apart : (peer other number : ℕ) → peer ≢ other → IsInRange (range_of (counts_of plan.peers) peer) number →
      IsInRange (range_of (counts_of plan.peers) other) number → ⊥
  pub total : total_of (counts_of plan.peers) ≤ 32 * 512
