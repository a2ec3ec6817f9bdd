-- Properties of every plan that is read.
use Rattle.std.proofs.Common.{◌≡◌, ◌≢◌, ℕ, zero, suc, ◌-◌, ◌<◌, ◌≤◌, Bool, true, false, cond, List, [], ◌∷◌, ◌++◌, length, get_or}
use Rattle.std.proofs.Common.{Option, Some, None, Ok, Err, IsSome, refl, sym, ap, subst, ◌∙◌, arith, nat_le, nat_lt, ◌&&◌}
use Rattle.std.proofs.Common.{◌||◌, ◌==◌, is_some}
use Rattle.std.specs.Prelude.{All, IfSome, option_map, position, ok_or, nat_eq}
use Rattle.std.specs.Option.{option_eq}
use Rattle.std.specs.List.{position_or_len}
use Rattle.std.specs.List.{list_any, AllPairs}
use Rattle.std.specs.Str.{bytes_eq}
use Rattle.std.proofs.lemmas.Bool.{true≢false}
use Rattle.std.proofs.lemmas.Bool.Decides.{nat_tests}
use Rattle.std.proofs.lemmas.List.{length-map, get_or_default}
use Rattle.std.proofs.lemmas.List.Elements.{All-push}
use Rattle.std.proofs.lemmas.List.Quantifiers.{all_pairs_push}
use Rattle.std.proofs.lemmas.Slice.Eq.{bytes_eq-Decides}
use Rattle.toml.specs.Data.{Data, no_items, Members, get_member, as_array, as_bool, as_str}
use Rattle.call_signals.specs.PeerRules.{IsWithin}
use Rattle.call_signals.specs.Format.{lowest_format}
use Rattle.peer_plan.specs.declared.key.Key.TheVariants as key
use Rattle.peer_plan.specs.declared.error.PlanError.TheVariants as error
use Rattle.peer_plan.specs.declared.endpoint.Endpoint.{Endpoint}
use Rattle.peer_plan.specs.declared.peer.Peer.{Peer}
use Rattle.peer_plan.specs.declared.peer.Limits.{Limits}
use Rattle.peer_plan.specs.declared.peer.Credentials.{Credentials}
use Rattle.peer_plan.specs.declared.peer.Media.{Media}
use Rattle.peer_plan.specs.declared.route.Route.{Route}
use Rattle.peer_plan.specs.Keys.{key_name}
use Rattle.peer_plan.specs.Fields.{number_of, text_of, value, value_at, each, list_in}
use Rattle.peer_plan.specs.Plan.{IsPlan, IsPeer, IsRoute, AreApart, is_name, is_prefix, counts_of}
use Rattle.peer_plan.specs.Reading.{address_in, endpoint_in, is_credential, credential_in, has_secret}
use Rattle.peer_plan.specs.Reading.{outbound_secret_in, credentials_in, formats_in, media_in, window_in, poke_in, call_tokens_in}
use Rattle.peer_plan.specs.Reading.{qualify_ms_in, rules_from, peer_in, has_double, is_named, is_endpoint, has_same_name}
use Rattle.peer_plan.specs.Reading.{has_same_endpoint, told_apart, peers_in, peer_named, source_at, source_in, has_way, new_route}
use Rattle.peer_plan.specs.Reading.{route_in, routes_in}
use Rattle.call_book.proofs.RangeLaws.{ranges_apart, total_within}
use Rattle.peer_plan.proofs.FormatLaws.{formats_some}
use Rattle.peer_plan.proofs.ReadingLaws.{bound, found_in, value_is, text_fits, default_within, missing, each_keeps}
use Rattle.peer_plan.proofs.ReadingLaws.{each_len, list_within}
use Rattle.peer_plan.proofs.PlanLimits.{IsLimits, number_is, number_there, qualify_within, value_or}

-- ---- peers

endpoint_port : (ms : Members) (endpoint : Endpoint) → endpoint_in ms ≡ Ok endpoint → IsWithin 1 65535 endpoint.port
unfolding endpoint_in
endpoint_port ms endpoint h =
    let a = bound (value ms key.Address (Err (error.Missing key.Address)) address_in) _ endpoint h in
    let b = bound (value ms key.Port (Err (error.Missing key.Port)) (number_of 1 65535)) _ endpoint a.2 in
    let is : record { address = a.0; port = b.0 } ≡ endpoint = cc in
    subst (λ e. IsWithin 1 65535 e.port) is (number_there ms key.Port 1 65535 b.0 b.1)

credential_some : (d : Data) (o : Option (List ℕ)) → credential_in d ≡ Some o → IsSome o
credential_some d o h = go (text_of is_credential d) h
  where
    go : (t : Option (List ℕ)) → option_map Some t ≡ Some o → IsSome o
    go None is = absurd (cc)
    go (Some t) is = let same : Some t ≡ o = cc in subst IsSome same refl

-- a user that may not be absent is there
user_some : (needed : Bool) (at_user : Option Data) (user : Option (List ℕ))
    → value_at key.User (cond needed (Err (error.Missing key.User)) (Ok None)) credential_in at_user ≡ Ok user → needed ≡ true
    → IsSome user
user_some needed (Some d) user u need = credential_some d user (found_in (credential_in d) (error.Range key.User) user u)
user_some true None user u need = absurd (cc)
user_some false None user u need = absurd (true≢false (sym need))

none_is_some : {P : Type 0} (o : Option (List ℕ)) → None ≡ o → IsSome o → P
none_is_some o none some = absurd (true≢false (sym some ∙ ap is_some (sym none)))

-- a secret that was read is at its key
secret_given : (format : ℕ) (ms : Members) (secret : Option (List ℕ)) → value ms key.Secret (Ok None) credential_in ≡ Ok secret
    → IsSome secret → has_secret format ms ≡ true
secret_given format ms secret s some = go (get_member (key_name key.Secret) ms) s
  where
    go : (at : Option Data) → value_at key.Secret (Ok None) credential_in at ≡ Ok secret
        → (is_some at || (format == 4 && is_some (get_member (key_name key.OutboundSecret) ms))) ≡ true
    go (Some d) s = refl
    go None s = none_is_some secret (cc) some

-- the secret of the other direction is at its own key, or is the same
outbound_given : (format : ℕ) (ms : Members) (secret outbound : Option (List ℕ)) → value ms key.Secret (Ok None) credential_in
    ≡ Ok secret → outbound_secret_in format secret ms ≡ Ok outbound → IsSome outbound
    → has_secret format ms ≡ true
outbound_given format ms secret outbound s o some = go (format == 4) (get_member (key_name key.Secret) ms)
    (get_member (key_name key.OutboundSecret) ms) s o
  where
    go : (newest : Bool) (at other : Option Data) → value_at key.Secret (Ok None) credential_in at ≡ Ok secret
        → cond newest (value_at key.OutboundSecret (Ok secret) credential_in other) (Ok secret) ≡ Ok outbound
        → (is_some at || (newest && is_some other)) ≡ true
    go newest (Some d) other s o = refl
    go true None (Some d) s o = refl
    go true None None s o = none_is_some outbound (cc) some
    go false None other s o = none_is_some outbound (cc) some

-- a secret, of either direction, has a user
record HaveUser (credentials : Credentials) : Type 0 where
  secret : IsSome credentials.secret → IsSome credentials.user
  outbound_secret : IsSome credentials.outbound_secret → IsSome credentials.user

secrets_of_user : (format : ℕ) (ms : Members) (credentials : Credentials) → credentials_in format ms ≡ Ok credentials
    → HaveUser credentials
unfolding credentials_in
secrets_of_user format ms credentials h =
    let a = bound (value ms key.User (cond (has_secret format ms) (Err (error.Missing key.User)) (Ok None)) credential_in) _
    credentials h in
    let b = bound (value ms key.Secret (Ok None) credential_in) _ credentials a.2 in
    let c = bound (outbound_secret_in format b.0 ms) _ credentials b.2 in
    let is : record { user = a.0; secret = b.0; outbound_secret = c.0 } ≡ credentials = cc in
    let user = user_some (has_secret format ms) (get_member (key_name key.User) ms) a.0 a.1 in
    subst HaveUser is (record {
      secret = λ some. user (secret_given format ms b.0 b.1 some);
      outbound_secret = λ some. user (outbound_given format ms b.0 c.0 b.1 c.1 some);
    })

media_some : (ms : Members) (media : Media) → media_in ms ≡ Ok media → IsSome (lowest_format media.formats)
unfolding media_in
media_some ms media h =
    let a = bound (value ms key.Formats (Err (error.Missing key.Formats)) formats_in) _ media h in
    let b = bound (value ms key.Trunk (Ok false) as_bool) _ media a.2 in
    let c = bound (value ms key.TrunkTimestamps (Ok false) as_bool) _ media b.2 in
    let is : record { formats = a.0; trunk = b.0; trunk_timestamps = c.0 } ≡ media = cc in
    subst (λ m. IsSome (lowest_format m.formats)) is
    (value_is (λ f. IsSome (lowest_format f)) key.Formats (Err (error.Missing key.Formats)) formats_in
    (get_member (key_name key.Formats) ms) a.0
    (λ d. formats_some d a.0) (missing (error.Missing key.Formats) a.0) a.1)

window_within : (format n : ℕ) (ms : Members) → window_in format ms ≡ Ok n → IsWithin 1 127 n
window_within format n ms h = go (nat_le 2 format) h
  where
    go : (b : Bool) → cond b (value ms key.Window (Ok 64) (number_of 1 127)) (Ok 64) ≡ Ok n → IsWithin 1 127 n
    go true is = number_is ms key.Window 1 127 64 n (omega arith) (omega arith) is
    go false is = default_within 1 127 n 64 (omega arith) (omega arith) is

place_below : (place workers : ℕ) → place ≤ workers - 1 → 1 ≤ workers → place < workers
place_below place workers last some = omega arith

numbers_within : (ms : Members) (n : ℕ) → value ms key.Numbers (Ok 64) (number_of 1 512) ≡ Ok n → IsWithin 1 512 n
numbers_within ms n h = number_is ms key.Numbers 1 512 64 n (omega arith) (omega arith) h

peer_sound : (format workers : ℕ) (limits : Limits) (ms : Members) (peer : Peer) → 1 ≤ workers → IsLimits limits
    → peer_in format limits workers ms ≡ Ok peer → IsPeer workers peer
unfolding peer_in
peer_sound format workers limits ms peer some limited h =
    let a = bound (value ms key.Name (Err (error.Missing key.Name)) (text_of is_name)) _ peer h in
    let b = bound (endpoint_in ms) _ peer a.2 in
    let c = bound (value ms key.Worker (Err (error.Missing key.Worker)) (number_of 0 (workers - 1))) _ peer b.2 in
    let d = bound (credentials_in format ms) _ peer c.2 in
    let e = bound (media_in ms) _ peer d.2 in
    let f = bound (value ms key.Numbers (Ok 64) (number_of 1 512)) _ peer e.2 in
    let g = bound (window_in format ms) _ peer f.2 in
    let i = bound (poke_in format ms) _ peer g.2 in
    let j = bound (call_tokens_in format b.0 ms) _ peer i.2 in
    let k = bound (qualify_ms_in format ms) _ peer j.2 in
    let is : record {
      name = a.0;
      endpoint = b.0;
      worker = c.0;
      rules = rules_from format limits d.0 e.0 g.0 i.0 j.0 k.0;
      numbers = f.0;
    } ≡ peer = ap (value_or peer) k.2 in
    let place = number_there ms key.Worker 0 (workers - 1) c.0 c.1 in
    let secrets = secrets_of_user format ms d.0 d.1 in
    subst (IsPeer workers) is (record {
      name = value_is (λ t. is_name t ≡ true) key.Name (Err (error.Missing key.Name)) (text_of is_name)
          (get_member (key_name key.Name) ms) a.0 (text_fits is_name a.0) (missing (error.Missing key.Name) a.0) a.1;
      port = endpoint_port ms b.0 b.1;
      worker = place_below c.0 workers place.1 some;
      rules = record {
        secret_of_user = secrets.secret;
        outbound_secret_of_user = secrets.outbound_secret;
        challenge_ms = limited.challenge_ms;
        some_format = media_some ms e.0 e.1;
        trunk_ms = limited.trunk_ms;
        retry_ms = limited.retry_ms;
        max_retries = limited.max_retries.1;
        ping_ms = limited.ping_ms.1;
        record_limit = limited.record_limit;
        record_octets = limited.record_octets;
        window = window_within format g.0 ms g.1;
        vnak_ms = limited.vnak_ms.1;
        qualify_ms = (qualify_within format k.0 ms k.1).1;
      };
      numbers = numbers_within ms f.0 f.1;
    })

none_here : {A : Type 0} (p : A → Bool) (x : A) (xs : List A) → list_any p (x ∷ xs) ≡ false → (p x ≡ false) ×
    (list_any p xs ≡ false)
none_here p x xs h = go (p x) refl h
  where
    go : (b : Bool) → p x ≡ b → (b || list_any p xs) ≡ false → (p x ≡ false) × (list_any p xs ≡ false)
    go true is h = absurd (true≢false h)
    go false is h = (is, h)

none_of : {A : Type 0} (p : A → Bool) (xs : List A) (i : ℕ) (d : A) → list_any p xs ≡ false → i < length xs
    → p (get_or xs i d) ≡ false
none_of p [] i d h lt = absurd (omega arith)
none_of p (x ∷ xs) zero d h lt = (none_here p x xs h).0
none_of p (x ∷ xs) (suc i) d h lt = none_of p xs i d (none_here p x xs h).1 (omega arith)

single_here : {A : Type 0} (same : A → A → Bool) (x : A) (xs : List A) → has_double same (x ∷ xs) ≡ false
    → (list_any (λ other. same other x) xs ≡ false) × (has_double same xs ≡ false)
single_here same x xs h = go (list_any (λ other. same other x) xs) refl h
  where
    go : (b : Bool) → list_any (λ other. same other x) xs ≡ b → cond b true (has_double same xs) ≡ false
        → (list_any (λ other. same other x) xs ≡ false) × (has_double same xs ≡ false)
    go true is h = absurd (true≢false h)
    go false is h = (is, h)

no_double : {A : Type 0} (same : A → A → Bool) (Apart : A → A → Type 0) → ((x other : A) → same other x ≡ false → Apart x other)
    → (xs : List A) → has_double same xs ≡ false
    → (i j : ℕ) (d : A) → i < j → j < length xs → Apart (get_or xs i d) (get_or xs j d)
no_double same Apart apart [] h i j d lt less = absurd (omega arith)
no_double same Apart apart (x ∷ xs) h i zero d lt less = absurd (omega arith)
no_double same Apart apart (x ∷ xs) h zero (suc j) d lt less =
    apart x (get_or xs j d) (none_of (λ other. same other x) xs j d (single_here same x xs h).0 (omega arith))
no_double same Apart apart (x ∷ xs) h (suc i) (suc j) d lt less = no_double same Apart apart xs (single_here same x xs h).1 i j d
    (omega arith) (omega arith)

differ : (a b : List ℕ) → bytes_eq a b ≡ false → b ≢ a
differ a b h = λ same. grind (arith, nat_tests, bytes_eq-Decides)

differing_endpoints : (a b : Endpoint) → is_endpoint b a ≡ false → a ≢ b
differing_endpoints a b h = λ same. grind (arith, nat_tests, bytes_eq-Decides)

told_apart_is : (peers all : List Peer) → told_apart peers ≡ Ok all → (peers ≡ all) × (has_same_name peers ≡ false) ×
    (has_same_endpoint peers ≡ false)
told_apart_is peers all h = go (has_same_name peers) (has_same_endpoint peers) refl refl h
  where
    go : (a b : Bool) → has_same_name peers ≡ a → has_same_endpoint peers ≡ b
        → cond a (Err error.SameName) (cond b (Err error.SameEndpoint) (Ok peers)) ≡ Ok all
        → (peers ≡ all) × (has_same_name peers ≡ false) × (has_same_endpoint peers ≡ false)
    go true b name endpoint is = absurd (cc)
    go false true name endpoint is = absurd (cc)
    go false false name endpoint is = (cc, name, endpoint)

pub record ArePeers (workers : ℕ) (peers : List Peer) : Type 0 where
  pub count : IsWithin 1 32 (length peers)
  pub each : All (IsPeer workers) peers
  pub names : AllPairs (λ peer other. peer.name ≢ other.name) peers
  pub endpoints : AllPairs (λ peer other. peer.endpoint ≢ other.endpoint) peers

pub peers_sound : (format workers : ℕ) (limits : Limits) (ms : Members) (peers : List Peer) → 1 ≤ workers → IsLimits limits
    → peers_in format limits workers ms ≡ Ok peers → ArePeers workers peers
unfolding peers_in
peers_sound format workers limits ms peers some limited h =
    let a = bound (list_in ms key.Peer 32) _ peers h in
    let b = bound (each key.Peer (λ _. peer_in format limits workers) [] a.0) _ peers a.2 in
    let c = told_apart_is b.0 peers b.2 in
    let tables = list_within ms key.Peer 32 a.0 a.1 in
    let len = each_len key.Peer (λ _. peer_in format limits workers) [] a.0 b.0 b.1 in
    subst (ArePeers workers) c.0 (record {
      count = (omega (arith, len, tables.0), omega (arith, len, tables.1));
      each = each_keeps (All (IsPeer workers)) key.Peer (λ _. peer_in format limits workers)
          (λ before table next kept is. All-push (IsPeer workers) before next kept (peer_sound format workers limits table next
          some limited is)) [] a.0 b.0 (λ k d lt. absurd (omega arith)) b.1;
      names = no_double (λ other peer. is_named peer.name other) (λ peer other. peer.name ≢ other.name)
          (λ peer other h. differ other.name peer.name h) b.0 c.1;
      endpoints = no_double (λ other peer. is_endpoint other.endpoint peer.endpoint)
          (λ peer other. peer.endpoint ≢ other.endpoint) (λ peer other h. differing_endpoints peer.endpoint other.endpoint h) b.0
          c.2;
    })

-- ---- routes

place_within : {A : Type 0} (p : A → Bool) (xs : List A) (i : ℕ) → position p xs ≡ Some i → i < length xs
place_within p xs i h = go (nat_lt (position_or_len p xs) (length xs)) refl h
  where
    go : (b : Bool) → nat_lt (position_or_len p xs) (length xs) ≡ b → cond b (Some (position_or_len p xs)) None ≡ Some i
        → i < length xs
    go true less is = let same : position_or_len p xs ≡ i = cc in subst (λ n. n < length xs) same (grind (arith, nat_tests))
    go false less is = absurd (cc)

pub record AreRoutes (peers : ℕ) (routes : List Route) : Type 0 where
  pub each : All (IsRoute peers) routes
  pub ways : AllPairs AreApart routes

new_is : (before : List Route) (prefix : List ℕ) (source : Option ℕ) (peer : ℕ) (route : Route)
    → new_route before prefix source peer ≡ Ok route
    → (record { prefix = prefix; source = source; peer = peer } ≡ route) × (has_way prefix source before ≡ false)
new_is before prefix source peer route h = go (has_way prefix source before) refl h
  where
    go : (b : Bool) → has_way prefix source before ≡ b
        → cond b (Err error.SameRoute) (Ok (record { prefix = prefix; source = source; peer = peer })) ≡ Ok route
        → (record { prefix = prefix; source = source; peer = peer } ≡ route) × (has_way prefix source before ≡ false)
    go true there is = absurd (cc)
    go false there is = (cc, there)

-- a source is one of the peers
named_within : (peers : List Peer) (name : List ℕ) (i : ℕ) → peer_named peers name ≡ Ok i → i < length peers
named_within peers name i h = place_within (is_named name) peers i (found_in (position (is_named name) peers) error.UnknownPeer i
    h)

source_at_within : (peers : List Peer) (o : Option Data) (source : Option ℕ) → source_at peers o ≡ Ok source
    → IfSome source (λ i. i < length peers)
unfolding source_at
source_at_within peers None source h = let same : None ≡ source = cc in subst (λ s. IfSome s (λ i. i < length peers)) same tt
source_at_within peers (Some d) source h =
    let a = bound (ok_or (as_str d) (error.Range key.Source)) _ source h in
    let b = bound (peer_named peers a.0) _ source a.2 in
    let same : Some b.0 ≡ source = cc in
    subst (λ s. IfSome s (λ i. i < length peers)) same (named_within peers a.0 b.0 b.1)

source_within : (format : ℕ) (peers : List Peer) (ms : Members) (source : Option ℕ) → source_in format peers ms ≡ Ok source
    → IfSome source (λ i. i < length peers)
source_within format peers ms source h = go (format == 4) h
  where
    go : (b : Bool) → cond b (source_at peers (get_member (key_name key.Source) ms)) (Ok None) ≡ Ok source
        → IfSome source (λ i. i < length peers)
    go true is = source_at_within peers (get_member (key_name key.Source) ms) source is
    go false is = let same : None ≡ source = cc in subst (λ s. IfSome s (λ i. i < length peers)) same tt

-- an absent source differs from each that is present
sources_same : (a b : Option ℕ) → a ≡ b → option_eq nat_eq a b ≡ true
sources_same None b h = let same : None ≡ b = h in subst (λ o. option_eq nat_eq None o ≡ true) same refl
sources_same (Some n) b h = let same : Some n ≡ b = h in subst (λ o. option_eq nat_eq (Some n) o ≡ true) same
    (grind (arith, nat_tests))

both_true : (a b : Bool) → (a && b) ≡ false → b ≡ true → a ≡ false
both_true true true h is = absurd (true≢false h)
both_true false b h is = refl
both_true true false h is = absurd (true≢false (sym is))

way_apart : (route other : Route) → (bytes_eq route.prefix other.prefix && option_eq nat_eq route.source other.source) ≡ false
    → AreApart route other
way_apart route other h = λ prefix source.
    differ route.prefix other.prefix (both_true (bytes_eq route.prefix other.prefix) (option_eq nat_eq route.source other.source)
    h (sources_same route.source other.source source)) (sym prefix)

route_kept : (format : ℕ) (peers : List Peer) (before : List Route) (ms : Members) (next : Route)
    → AreRoutes (length peers) before → route_in format peers before ms ≡ Ok next → AreRoutes (length peers) (before ++ next ∷ [])
unfolding route_in
route_kept format peers before ms next kept h =
    let a = bound (value ms key.Prefix (Err (error.Missing key.Prefix)) (text_of is_prefix)) _ next h in
    let b = bound (value ms key.Peer (Err (error.Missing key.Peer)) as_str) _ next a.2 in
    let c = bound (peer_named peers b.0) _ next b.2 in
    let d = bound (source_in format peers ms) _ next c.2 in
    let e = new_is before a.0 d.0 c.0 next d.2 in
    let new : Route = record { prefix = a.0; source = d.0; peer = c.0 } in
    let fits = value_is (λ t. is_prefix t ≡ true) key.Prefix (Err (error.Missing key.Prefix)) (text_of is_prefix)
    (get_member (key_name key.Prefix) ms) a.0 (text_fits is_prefix a.0) (missing (error.Missing key.Prefix) a.0) a.1 in
    subst (λ route. AreRoutes (length peers) (before ++ route ∷ [])) e.0 (record {
      each = All-push (IsRoute (length peers)) before new kept.each
          (record { prefix = fits; source = source_within format peers ms d.0 d.1; peer = named_within peers b.0 c.0 c.1 });
      ways = all_pairs_push AreApart before new kept.ways
          (λ k d' lt. way_apart (get_or before k d') new
          (none_of (λ route. bytes_eq route.prefix a.0 && option_eq nat_eq route.source d.0) before k d' e.1 lt));
    })

pub routes_sound : (format : ℕ) (peers : List Peer) (ms : Members) (routes : List Route) → routes_in format peers ms ≡ Ok routes
    → AreRoutes (length peers) routes
unfolding routes_in
routes_sound format peers ms routes h =
    let a = bound (value ms key.Route (Ok no_items) as_array) (each key.Route (route_in format peers) []) routes h in
    each_keeps (AreRoutes (length peers)) key.Route (route_in format peers) (route_kept format peers) [] a.0 routes
    (record { each = λ k d lt. absurd (omega arith); ways = λ i j d lt less. absurd (omega arith) }) a.2

-- ---- the plan

numbers_at : (workers : ℕ) (peers : List Peer) → All (IsPeer workers) peers → (i : ℕ) → i < length (counts_of peers)
    → IsWithin 1 512 (get_or (counts_of peers) i 0)
numbers_at workers [] h i lt = absurd (omega arith)
numbers_at workers (p ∷ ps) h zero lt = (h 0 p (omega arith)).numbers
numbers_at workers (p ∷ ps) h (suc i) lt = numbers_at workers ps (λ k d less. h (suc k) d (omega arith)) i (omega arith)

pub plan_sound : (workers : List Endpoint) (passes : ℕ) (peers : List Peer) (routes : List Route) (avoids_return : Bool)
    → IsWithin 1 8 (length workers)
    → IsWithin (length workers) 64 passes → ArePeers (length workers) peers → AreRoutes (length peers) routes
    → IsPlan (record { workers = workers; passes = passes; peers = peers; routes = routes; avoids_return = avoids_return })
plan_sound workers passes peers routes avoids_return some enough are lead =
    record {
      workers = some;
      passes = enough;
      peer_count = are.count;
      peers = are.each;
      routes = lead.each;
      names = are.names;
      endpoints = are.endpoints;
      ways = lead.ways;
      apart = λ peer other number ne h k. ranges_apart (counts_of peers) peer other number number ne h k refl;
      total = let most = total_within (counts_of peers) 512 (λ i lt. (numbers_at (length workers) peers are.each i lt).1) in
          omega (arith, simp length-map at most, are.count.1);
    }

pub count_at : (workers : ℕ) (peers : List Peer) → All (IsPeer workers) peers → All (IsWithin 1 512) (counts_of peers)
count_at workers peers h = λ k d lt. let at = numbers_at workers peers h k lt in rw (get_or_default (counts_of peers) k d 0 lt) at
