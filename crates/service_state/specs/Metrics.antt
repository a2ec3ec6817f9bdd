-- The text form of metrics, as Prometheus' exposition formats have it in version 0.0.4.
use Rattle.std.specs.Prelude.{ℕ, ◌==◌, Bool, true, false, List, [], ◌∷◌, ◌++◌, length, codes, decimal, if◌then◌else◌}
use Rattle.std.specs.List.{flat_map}
use Rattle.service_state.specs.declared.metrics.Kind.{Kind}
use Rattle.service_state.specs.declared.metrics.Kind.TheVariants.{Counter, Gauge}
use Rattle.service_state.specs.declared.metrics.Label.{Label}
use Rattle.service_state.specs.declared.metrics.Labels.{Labels}
use Rattle.service_state.specs.declared.metrics.Labels.TheVariants as labels
use Rattle.service_state.specs.declared.metrics.Sample.{Sample}
use Rattle.service_state.specs.declared.metrics.Family.{Family}

-- an octet of a label's value: a backslash, a quote and the end of a line are escaped by a backslash
abbrev pub value_octet : ℕ → List ℕ
value_octet octet =
    if octet == 92 then codes "\\\\" else (
    if octet == 34 then codes "\\\"" else (
    if octet == 10 then codes "\\n" else octet ∷ []))

-- an octet of a help text: a backslash and the end of a line are escaped by a backslash
abbrev pub help_octet : ℕ → List ℕ
help_octet octet =
    if octet == 92 then codes "\\\\" else (
    if octet == 10 then codes "\\n" else octet ∷ [])

-- an octet of a label's value, or otherwise of a help text
abbrev pub text_octet : Bool → ℕ → List ℕ
text_octet true = value_octet
text_octet false = help_octet

abbrev pub kind_text : Kind → List ℕ
kind_text Counter = codes "counter"
kind_text Gauge = codes "gauge"

-- a label: its name, and its value in quotes
abbrev pub label_text : Label → List ℕ
label_text label = label.name.now ++ (codes "=\"" ++ (flat_map value_octet label.value.now ++ codes "\""))

-- the labels of a sample, in braces; nothing if it has none
abbrev pub labels_text : Labels → List ℕ
labels_text labels.None = []
labels_text (labels.One label) = codes "{" ++ (label_text label ++ codes "}")
labels_text (labels.Two first second) = codes "{" ++ (label_text first ++ (codes "," ++ (label_text second ++ codes "}")))

-- a sample's line: the family's name, the labels, the value
abbrev pub sample_text : List ℕ → Sample → List ℕ
sample_text name sample = name ++ (labels_text sample.labels ++ (codes " " ++ (decimal sample.value ++ codes "\n")))

-- the line HELP of a family
abbrev pub help_line : List ℕ → List ℕ → List ℕ
help_line name help = codes "# HELP " ++ (name ++ (codes " " ++ (flat_map help_octet help ++ codes "\n")))

-- the line TYPE of a family
abbrev pub type_line : List ℕ → Kind → List ℕ
type_line name kind = codes "# TYPE " ++ (name ++ (codes " " ++ (kind_text kind ++ codes "\n")))

-- a family: the lines HELP and TYPE, and a line for each sample
abbrev pub family_text : Family → List ℕ
family_text family =
    help_line family.name.now family.help.now
    ++ (type_line family.name.now family.kind ++ flat_map (sample_text family.name.now) family.samples.now)

-- the answer to a scrape, in HTTP/1.1 (RFC 9112, section 4)
abbrev pub scrape_head : ℕ → List ℕ
scrape_head n =
    codes "HTTP/1.1 200 OK\r\nContent-Type: text/plain; version=0.0.4\r\nContent-Length: " ++ (decimal n
    ++ codes "\r\nConnection: close\r\n\r\n")

abbrev pub scrape_text : List ℕ → List ℕ
scrape_text text = scrape_head (length text) ++ text

-- the octet that an escaped octet means
abbrev pub unescaped_octet : ℕ → ℕ
unescaped_octet octet = if octet == 110 then 10 else octet

-- a label's value, as a reader of the text form has it: behind a backslash, or not
abbrev pub read_from : Bool → List ℕ → List ℕ
read_from behind [] = []
read_from true (octet ∷ octets) = unescaped_octet octet ∷ read_from false octets
read_from false (octet ∷ octets) = if octet == 92 then read_from true octets else octet ∷ read_from false octets

abbrev pub read_value : List ℕ → List ℕ
read_value octets = read_from false octets
