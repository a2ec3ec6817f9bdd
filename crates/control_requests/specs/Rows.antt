-- The JSON of peers, calls and accounts. The members are in the order of their names.
use Rattle.std.specs.Prelude.{ℕ, ◌==◌, List, [], ◌∷◌, ◌++◌, length, codes, option_copied, if◌then◌else◌}
use Rattle.serde_json.specs.Data.{Data, number, unsigned, string, array, object, Items, no_items, item, Members, no_members}
use Rattle.serde_json.specs.Data.{member}
use Rattle.serde_json.specs.Written.{compact_text}
use Rattle.control_requests.specs.Members.{optional, optional_text}
use Rattle.control_requests.specs.declared.views.PeerRow.{PeerRow}
use Rattle.control_requests.specs.declared.views.CallEntry.{CallEntry}
use Rattle.control_requests.specs.declared.views.AccountsRow.{AccountsRow}

abbrev pub peer_data : PeerRow → Data
peer_data row = object (
    member (codes "auth_failed") (number (unsigned row.auth_failed)) (
    member (codes "endpoint") (string row.endpoint.now) (
    member (codes "legs") (number (unsigned row.legs)) (
    member (codes "lost") (number (unsigned row.lost)) (
    member (codes "name") (string row.name.now) (
    member (codes "numbers") (number (unsigned row.numbers)) (
    member (codes "outbox_lost") (number (unsigned row.outbox_lost)) (
    member (codes "queue_dropped") (number (unsigned row.queue_dropped)) (
    member (codes "reach") (string row.reach.now) (
    member (codes "received") (number (unsigned row.received)) (
    member (codes "refused") (number (unsigned row.refused)) (
    member (codes "round_trip_ms") (optional row.round_trip_ms) (
    member (codes "sent") (number (unsigned row.sent)) (
    member (codes "silent_ms") (optional row.silent_ms) (
    member (codes "unreachable_ms") (optional row.unreachable_ms) (
    member (codes "worker") (number (unsigned row.worker)) no_members))))))))))))))))

abbrev pub call_data : CallEntry → Data
call_data row = object (
    member (codes "age_ms") (number (unsigned row.age_ms)) (
    member (codes "called") (optional_text (option_copied row.called)) (
    member (codes "calling") (optional_text (option_copied row.calling)) (
    member (codes "entries") (number (unsigned row.entries)) (
    member (codes "format") (string row.format.now) (
    member (codes "held") (number (unsigned row.held)) (
    member (codes "number") (number (unsigned row.number)) (
    member (codes "partner") (optional row.partner) (
    member (codes "peer") (string row.peer.now) (
    member (codes "record_limit") (number (unsigned row.record_limit)) (
    member (codes "remote") (optional row.remote) (
    member (codes "serial") (number (unsigned row.serial)) (
    member (codes "stage") (string row.stage.now) no_members)))))))))))))

abbrev pub accounts_data : AccountsRow → Data
accounts_data row = object (
    member (codes "accepted") (number (unsigned row.accepted)) (
    member (codes "dropped") (number (unsigned row.dropped)) (
    member (codes "packed") (number (unsigned row.packed)) (
    member (codes "quelched") (number (unsigned row.quelched)) (
    member (codes "queued") (number (unsigned row.queued)) no_members)))))

-- rows, and one more after a comma
abbrev pub followed : List ℕ → List ℕ → List ℕ
followed rows row = if length rows == 0 then row else rows ++ 44 ∷ row

-- the text of more rows, behind commas
abbrev pub after_first : List Members → List ℕ
after_first [] = []
after_first (row ∷ rows) = 44 ∷ (compact_text (object row) ++ after_first rows)

-- the text of rows, with a comma between each two
abbrev pub rows_text : List Members → List ℕ
rows_text [] = []
rows_text (row ∷ rows) = compact_text (object row) ++ after_first rows

-- an object with one member, a list with this text
abbrev pub list_text : List ℕ → List ℕ → List ℕ
list_text name text = codes "{\"" ++ name ++ codes "\":[" ++ text ++ codes "]}"

-- the rows as one JSON value
abbrev pub row_items : List Members → Items
row_items [] = no_items
row_items (row ∷ rows) = item (object row) (row_items rows)

abbrev pub list_data : List ℕ → List Members → Data
list_data name rows = object (member name (array (row_items rows)) no_members)
