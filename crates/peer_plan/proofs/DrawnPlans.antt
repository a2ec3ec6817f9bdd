-- The plan of an exchange that drew something is a plan.
use Rattle.std.proofs.Common.{◌≡◌, ◌≢◌, ◌<◌, ◌≤◌, ◌*◌, ℕ, List, [], ◌∷◌, length, get_or, refl, sym, ap, subst, ◌∙◌, arith}
use Rattle.std.specs.Prelude.{All, map}
use Rattle.std.specs.List.{AllPairs}
use Rattle.std.proofs.Math.ListN.{get_or-map}
use Rattle.std.proofs.lemmas.List.{length-map}
use Rattle.std.proofs.lemmas.List.Elements.{All-map}
use Rattle.peer_plan.specs.declared.drawn.Drawn.{Drawn}
use Rattle.peer_plan.specs.declared.peer.Peer.{Peer}
use Rattle.peer_plan.specs.Plan.{IsPeer, IsPlan, IsRoute, IsInRange, PlanView, counts_of, range_of, total_of, with_drawn}

-- a field that it leaves
kept : {B : Type 0} (field : Peer → B) (drawn : Drawn) → ((peer : Peer) → field (with_drawn drawn peer) ≡ field peer)
    → (peers : List Peer) → map field (map (with_drawn drawn) peers) ≡ map field peers
kept field drawn same [] = refl
kept field drawn same (peer ∷ peers) =
    ap (λ b. b ∷ map field (map (with_drawn drawn) peers)) (same peer) ∙ ap (λ bs. field peer ∷ bs) (kept field drawn same peers)

same_at : {B : Type 0} (field : Peer → B) (xs ys : List Peer) (i : ℕ) (d : Peer) → map field ys ≡ map field xs
    → field (get_or ys i d) ≡ field (get_or xs i d)
same_at field xs ys i d same =
    sym (get_or-map field ys i d) ∙ ap (λ bs. get_or bs i (field d)) same ∙ get_or-map field xs i d

-- those that differ in it still do
apart : {B : Type 0} (field : Peer → B) (xs ys : List Peer) → map field ys ≡ map field xs → length ys ≡ length xs
    → AllPairs (λ peer other. field peer ≢ field other) xs → AllPairs (λ peer other. field peer ≢ field other) ys
apart field xs ys same long pairs i j d before within alike =
    pairs i j d before (subst (λ n. j < n) long within) (sym (same_at field xs ys i d same) ∙ alike ∙ same_at field xs ys j d
    same)

drawn_peer : (drawn : Drawn) (workers : ℕ) (peer : Peer) → IsPeer workers peer → IsPeer workers (with_drawn drawn peer)
drawn_peer drawn workers peer is = record {
  name = is.name;
  port = is.port;
  worker = is.worker;
  rules = record {
    secret_of_user = is.rules.secret_of_user;
    outbound_secret_of_user = is.rules.outbound_secret_of_user;
    challenge_ms = is.rules.challenge_ms;
    some_format = is.rules.some_format;
    trunk_ms = is.rules.trunk_ms;
    retry_ms = is.rules.retry_ms;
    max_retries = is.rules.max_retries;
    ping_ms = is.rules.ping_ms;
    record_limit = is.rules.record_limit;
    record_octets = is.rules.record_octets;
    window = is.rules.window;
    vnak_ms = is.rules.vnak_ms;
    qualify_ms = is.rules.qualify_ms;
  };
  numbers = is.numbers;
}

pub counts_kept : (drawn : Drawn) (peers : List Peer) → counts_of (map (with_drawn drawn) peers) ≡ counts_of peers
counts_kept drawn peers = kept (λ peer. peer.numbers) drawn (λ peer. refl) peers

pub endpoints_kept : (drawn : Drawn) (peers : List Peer) → map (λ (peer : Peer). peer.endpoint) (map (with_drawn drawn) peers)
    ≡ map (λ (peer : Peer). peer.endpoint) peers
endpoints_kept drawn peers = kept (λ peer. peer.endpoint) drawn (λ peer. refl) peers

pub drawn_plan : (drawn : Drawn) (plan : PlanView) → IsPlan plan
    → IsPlan (record plan { peers = map (with_drawn drawn) plan.peers })
drawn_plan drawn plan is =
    let more = map (with_drawn drawn) plan.peers in
    let long : length more ≡ length plan.peers = length-map plan.peers (with_drawn drawn) in
    let counts = counts_kept drawn plan.peers in
    record {
      workers = is.workers;
      passes = is.passes;
      peer_count = (omega (arith, long, is.peer_count.0), omega (arith, long, is.peer_count.1));
      peers =
          All-map (IsPeer (length plan.workers)) (with_drawn drawn) plan.peers
          (λ k d within. drawn_peer drawn (length plan.workers) (get_or plan.peers k d) (is.peers k d within));
      routes = subst (λ n. All (IsRoute n) plan.routes) (sym long) is.routes;
      names = apart (λ peer. peer.name) plan.peers more (kept (λ peer. peer.name) drawn (λ peer. refl) plan.peers) long is.names;
      endpoints = apart (λ peer. peer.endpoint) plan.peers more (endpoints_kept drawn plan.peers) long is.endpoints;
      ways = is.ways;
      apart = λ peer other number differ one another.
          is.apart peer other number differ (subst (λ cs. IsInRange (range_of cs peer) number) counts one)
          (subst (λ cs. IsInRange (range_of cs other) number) counts another);
      total = subst (λ cs. total_of cs ≤ 32 * 512) (sym counts) is.total;
    }
