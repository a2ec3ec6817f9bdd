-- Facts about frames that follow from the moments of a call, in one sentence each.
use Rattle.std.specs.Prelude.{◌≡◌, Bool, true, false, Option, None, List, [], ◌∷◌, ◌++◌, ◌⊎◌}
use Rattle.std.specs.List.{AllByRecursion}
use Rattle.call_signals.specs.declared.message.Message.TheVariants as messages
use Rattle.call_records.specs.SideFrames.{SideFrame, meaning_of}
use Rattle.call_records.specs.Courses.{accepts, answers, ending_of, end_by}
use Rattle.call_records.specs.declared.call_end.CallEnd.{CallEnd}
use Rattle.call_records.specs.declared.side.Side.{Side}

-- this frame doesn't end a call; accepted says whether the call was accepted before
abbrev pub GoesOn : Option Side → Bool → SideFrame → Type 0
GoesOn opener accepted f = ending_of opener accepted f ≡ None

-- a frame among others
pub record Placed (frames : List SideFrame) : Type 0 where
  pub before : List SideFrame
  pub frame : SideFrame
  pub later : List SideFrame
  pub all : frames ≡ before ++ frame ∷ later

-- One of these frames is of a kind, and neither it nor a frame before it ends the call, whether that was accepted before or
-- not.
pub record HasFrame (opener : Option Side) (accepted : Bool) (is_one : SideFrame → Bool) (frames : List SideFrame) : Type 0 where
  pub placed : Placed frames
  pub is : is_one placed.frame ≡ true
  pub go_on : AllByRecursion (GoesOn opener accepted) (placed.before ++ placed.frame ∷ [])

-- an ACCEPT of the called side
abbrev pub HasAccept : Option Side → List SideFrame → Type 0
HasAccept opener frames = HasFrame opener false (accepts opener) frames

-- an ANSWER of the called side
abbrev pub HasAnswer : Option Side → List SideFrame → Type 0
HasAnswer opener frames = HasFrame opener true (answers opener) frames

-- After an ACCEPT of the called side comes an ANSWER of that side, and no frame up to there ends the call.
pub record HasAcceptAndAnswer (opener : Option Side) (frames : List SideFrame) : Type 0 where
  pub accepted : HasAccept opener frames
  pub answered : HasAnswer opener accepted.placed.later

-- a HANGUP of either side
abbrev pub IsHangup : SideFrame → Type 0
IsHangup f = meaning_of f ≡ messages.Hangup

-- among these frames is no HANGUP
abbrev pub HasNoHangup : List SideFrame → Type 0
HasNoHangup frames = AllByRecursion (λ f. ¬ IsHangup f) frames

-- The end of the call is that of a HANGUP or a REJECT among these frames, and no HANGUP comes before it.
pub record HasEnding (frames : List SideFrame) (end : CallEnd) : Type 0 where
  pub placed : Placed frames
  pub is_ending : (meaning_of placed.frame ≡ messages.Hangup) ⊎ (meaning_of placed.frame ≡ messages.Reject)
  pub end_is : end ≡ end_by placed.frame end.how
  pub first : HasNoHangup placed.before
