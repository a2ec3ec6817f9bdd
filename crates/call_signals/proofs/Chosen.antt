-- The choice of a NEW's format.
use Rattle.std.specs.Prelude.{◌&&◌, ◌||◌, ◌==◌, ◌≢◌}
use Rattle.std.proofs.Common.{◌≡◌, ℕ, ◌≤◌, Bool, true, false, ◌⊎◌, inl, inr, None, Some, refl, ◌∙◌, arith}
use Rattle.std.proofs.lemmas.Bool.{false_from_ne_true, false≢true}
use Rattle.std.proofs.lemmas.Bool.Decides.{nat_tests}
use Rattle.iax_frames.specs.FullFrame.{FullFrame}
use Rattle.info_elements.specs.Numbers.{CAPABILITY, FORMAT}
use Rattle.call_signals.specs.Format.{format_bit, has_format, lowest_format}
use Rattle.call_signals.specs.Openings.{bits_in, has_bit, common_formats, chosen_format, call_format, IsCommon, IsLowestCommon}
use Rattle.call_signals.specs.Openings.{IsWanted}
use Rattle.call_signals.specs.declared.format.Format.{Format}
use Rattle.call_signals.specs.declared.format.Format.TheVariants.{Gsm, Ulaw, Alaw}
use Rattle.call_signals.specs.declared.format.Formats.{Formats}

-- ---- common formats

both-of : (a b c : Bool) → a ≡ true → (b ≡ true) ⊎ (c ≡ true) → (a && (b || c)) ≡ true
both-of true true c p q = refl
both-of true false true p q = refl
both-of true false false p (inl q) = absurd (false≢true q)
both-of true false false p (inr q) = absurd (false≢true q)
both-of false b c p q = absurd (false≢true p)

of-both : (a b c : Bool) → (a && (b || c)) ≡ true → (a ≡ true) × ((b ≡ true) ⊎ (c ≡ true))
of-both true true c e = (refl, inl refl)
of-both true false true e = (refl, inr refl)
of-both true false false e = absurd (false≢true e)
of-both false b c e = absurd (false≢true e)

-- the common formats of a NEW
abbrev commons : Formats → FullFrame → Formats
commons formats frame = common_formats formats (bits_in frame FORMAT) (bits_in frame CAPABILITY)

common-there : (formats : Formats) (frame : FullFrame) (format : Format) → IsCommon formats frame format
    → has_format (commons formats frame) format ≡ true
common-there formats frame Gsm is = both-of formats.gsm (has_bit (bits_in frame FORMAT) Gsm)
    (has_bit (bits_in frame CAPABILITY) Gsm) is.0 is.1
common-there formats frame Ulaw is = both-of formats.ulaw (has_bit (bits_in frame FORMAT) Ulaw)
    (has_bit (bits_in frame CAPABILITY) Ulaw) is.0 is.1
common-there formats frame Alaw is = both-of formats.alaw (has_bit (bits_in frame FORMAT) Alaw)
    (has_bit (bits_in frame CAPABILITY) Alaw) is.0 is.1

there-common : (formats : Formats) (frame : FullFrame) (format : Format) → has_format (commons formats frame) format ≡ true
    → IsCommon formats frame format
there-common formats frame Gsm there = of-both formats.gsm (has_bit (bits_in frame FORMAT) Gsm)
    (has_bit (bits_in frame CAPABILITY) Gsm) there
there-common formats frame Ulaw there = of-both formats.ulaw (has_bit (bits_in frame FORMAT) Ulaw)
    (has_bit (bits_in frame CAPABILITY) Ulaw) there
there-common formats frame Alaw there = of-both formats.alaw (has_bit (bits_in frame FORMAT) Alaw)
    (has_bit (bits_in frame CAPABILITY) Alaw) there

-- ---- the format chosen among them

no-test : (b : Bool) (w k : ℕ) → (b ≡ true → w ≢ k) → (b && (w == k)) ≡ false
no-test false w k differs = refl
no-test true w k differs = let apart : w ≢ k = differs refl in grind (arith, nat_tests)

yes-test : (b : Bool) (w k : ℕ) → b ≡ true → w ≡ k → (b && (w == k)) ≡ true
yes-test true w k is same = grind (arith, nat_tests)
yes-test false w k is same = absurd (false≢true is)

wanted-chosen : (common : Formats) (w : ℕ) (format : Format) → has_format common format ≡ true → w ≡ format_bit format
    → chosen_format common w ≡ Some format
wanted-chosen common w Gsm is same = rw (yes-test common.gsm w 2 is same)
wanted-chosen common w Ulaw is same =
    rw (no-test common.gsm w 2 (λ _. omega (arith, same)), yes-test common.ulaw w 4 is same)
wanted-chosen common w Alaw is same =
    rw (
      no-test common.gsm w 2 (λ _. omega (arith, same)),
      no-test common.ulaw w 4 (λ _. omega (arith, same)),
      yes-test common.alaw w 8 is same,
    )

-- if no common bit is wanted
chosen-lowest : (common : Formats) (w : ℕ) → ((format : Format) → has_format common format ≡ true → w ≢ format_bit format)
    → chosen_format common w ≡ lowest_format common
chosen-lowest common w differs =
    rw (no-test common.gsm w 2 (differs Gsm), no-test common.ulaw w 4 (differs Ulaw), no-test common.alaw w 8 (differs Alaw))

lowest-is : (common : Formats) (format : Format) → has_format common format ≡ true
    → ((other : Format) → has_format common other ≡ true → format_bit format ≤ format_bit other)
    → lowest_format common ≡ Some format
lowest-is common Gsm is low = rw is
lowest-is common Ulaw is low =
    rw (false_from_ne_true common.gsm (λ other. absurd (omega (arith, low Gsm other))), is)
lowest-is common Alaw is low =
    rw (
      false_from_ne_true common.gsm (λ other. absurd (omega (arith, low Gsm other))),
      false_from_ne_true common.ulaw (λ other. absurd (omega (arith, low Ulaw other))),
      is,
    )

-- ---- the format of a NEW

pub wanted : (formats : Formats) (frame : FullFrame) (format : Format) → IsWanted formats frame format
    → call_format formats frame ≡ Some format
wanted formats frame format is = wanted-chosen (commons formats frame) (bits_in frame FORMAT) format
    (common-there formats frame format is.0) is.1

pub lowest : (formats : Formats) (frame : FullFrame) (format : Format) → ((other : Format) → ¬ IsWanted formats frame other)
    → IsLowestCommon formats frame format → call_format formats frame ≡ Some format
lowest formats frame format none is =
    chosen-lowest (commons formats frame) (bits_in frame FORMAT)
    (λ other there same. none other (there-common formats frame other there, same))
    ∙ lowest-is (commons formats frame) format (common-there formats frame format is.0)
    (λ other there. is.1 other (there-common formats frame other there))

pub none : (formats : Formats) (frame : FullFrame) → ((format : Format) → ¬ IsCommon formats frame format)
    → call_format formats frame ≡ None
none formats frame nothing =
    let common = commons formats frame in
    let absent : (format : Format) → has_format common format ≡ false
    = λ format. false_from_ne_true (has_format common format)
    (λ there. nothing format (there-common formats frame format there)) in
    chosen-lowest common (bits_in frame FORMAT) (λ format there same. nothing format (there-common formats frame format there))
    ∙ rw (absent Gsm, absent Ulaw, absent Alaw)
