-- The first key of a document that plan version 4 doesn't have. The plan's own keys come first, then those of its workers,
-- peers and routes, table by table. The keys of one table come in the order of their names.
use Rattle.std.specs.Prelude.{ℕ, List, map, take, Option, Some, None, Result, Ok, Err, option_and_then, ◌==◌, if◌then◌else◌}
use Rattle.toml.specs.Data.{Data, Items, no_items, item, Members, no_members, member, get_member, as_array, as_table}
use Rattle.call_signals.specs.Credential.{is_printable}
use Rattle.peer_plan.specs.declared.key.Key.TheVariants as key
use Rattle.peer_plan.specs.declared.key.Section.{Section}
use Rattle.peer_plan.specs.declared.key.Section.TheVariants as section
use Rattle.peer_plan.specs.declared.error.PlanError.{PlanError}
use Rattle.peer_plan.specs.declared.error.PlanError.TheVariants as error
use Rattle.peer_plan.specs.Keys.{key_name, is_known}

-- how a name is printed
abbrev pub shown_octet : ℕ → ℕ
shown_octet octet = if is_printable octet then octet else 63

abbrev pub shown_name : List ℕ → List ℕ
shown_name name = map shown_octet (take 64 name)

-- in a table
abbrev pub unknown_key : Section → ℕ → Members → Option (List ℕ)
unknown_key section format no_members = None
unknown_key section format (member k d ms) = if is_known section format k then
    unknown_key section format ms else Some (shown_name k)

-- in an item of a list
abbrev pub unknown_in_item : Section → ℕ → Data → Option (List ℕ)
unknown_in_item section format d = option_and_then (unknown_key section format) (as_table d)

-- the first, or otherwise the second
abbrev pub or_else : {A : Type 0} → Option A → Option A → Option A
or_else None other = other
or_else (Some x) other = Some x

abbrev pub unknown_in_items : Section → ℕ → Items → Option (List ℕ)
unknown_in_items section format no_items = None
unknown_in_items section format (item d ds) = or_else (unknown_in_item section format d) (unknown_in_items section format ds)

-- in a list of tables
abbrev pub unknown_in_list : Section → ℕ → Option Data → Option (List ℕ)
unknown_in_list section format found = option_and_then (unknown_in_items section format) (option_and_then as_array found)

-- in the whole document
abbrev pub unknown_in : ℕ → Members → Option (List ℕ)
unknown_in format ms =
    or_else (unknown_key section.Plan format ms)
    (or_else (unknown_in_list section.Worker format (get_member (key_name key.Worker) ms))
    (or_else (unknown_in_list section.Peer format (get_member (key_name key.Peer) ms))
    (unknown_in_list section.Route format (get_member (key_name key.Route) ms))))

-- plan version 4 has no other key; in versions 1 and 2 such keys are skipped
abbrev pub refused_as : Option (List ℕ) → Result (Unit {0}) PlanError
refused_as None = Ok tt
refused_as (Some name) = Err (error.Unknown name)

abbrev pub known_in : ℕ → Members → Result (Unit {0}) PlanError
known_in format ms = if format == 4 then refused_as (unknown_in format ms) else Ok tt
