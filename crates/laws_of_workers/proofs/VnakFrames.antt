-- A full frame that means VNAK has its type and its subclass.
use Rattle.std.proofs.Common.{◌≡◌, ◌≤◌, ◌<◌, ℕ, ◌-◌, ◌^◌, ◌==◌, ◌&&◌, Bool, true, false, cond, Option, None, Some, refl, ap}
use Rattle.std.proofs.Common.{◌∙◌, inl, inr, arith}
use Rattle.std.specs.Prelude.{nat_lt}
use Rattle.std.proofs.lemmas.Bool.{cases_Bool, eq-eqb, eqb-true, ltb-false, ltb-true}
use Rattle.std.proofs.lemmas.Nat.{pow_below}
use Rattle.call_signals.specs.Codes.{FRAME_CONTROL, FRAME_DTMF, FRAME_IAX, FRAME_VOICE}
use Rattle.call_signals.specs.Codes.{CONTROL_HANGUP, CONTROL_RINGING, CONTROL_ANSWER, CONTROL_BUSY, CONTROL_CONGESTION}
use Rattle.call_signals.specs.Codes.{CONTROL_PROGRESS, CONTROL_PROCEEDING}
use Rattle.call_signals.specs.Codes.{IAX_NEW, IAX_PING, IAX_PONG, IAX_ACK, IAX_HANGUP, IAX_REJECT, IAX_ACCEPT, IAX_AUTHREQ}
use Rattle.call_signals.specs.Codes.{IAX_AUTHREP, IAX_INVAL, IAX_LAGRQ, IAX_LAGRP}
use Rattle.call_signals.specs.Codes.{IAX_VNAK, IAX_TXCNT, IAX_TXACC, IAX_QUELCH, IAX_UNQUELCH, IAX_POKE, IAX_UNSUPPORT}
use Rattle.call_signals.specs.Format.{format_of_bit}
use Rattle.call_signals.specs.Message.{by_type, control_message, dtmf_message, iax_message, is_vnak, message_by, message_of}
use Rattle.call_signals.specs.Message.{voice_in, voice_message}
use Rattle.call_signals.specs.declared.format.Format.{Format}
use Rattle.call_signals.specs.declared.message.Message.{Message}
use Rattle.call_signals.specs.declared.message.Message.TheVariants.{New, Ping, Pong, Ack, Hangup, Reject, Accept, AuthReq}
use Rattle.call_signals.specs.declared.message.Message.TheVariants.{AuthRep, Inval, LagRq, LagRp, Vnak}
use Rattle.call_signals.specs.declared.message.Message.TheVariants.{TxCnt, TxAcc, Quelch, Unquelch, Poke, Unsupport, UnknownIax}
use Rattle.call_signals.specs.declared.message.Message.TheVariants.{ClearsCall, Indicates, Answer, Dtmf, Other}
use Rattle.call_signals.specs.declared.signal.Indication.TheVariants.{Ringing, Progress, Proceeding}
use Rattle.iax_frames.specs.FullFrame.{subclass_meaning}
use Rattle.iax_frames.specs.declared.full_frame.FullHead.{FullHead}

-- whichever is chosen of those that are no VNAK
of_types : (a b c d : Bool) (k l m n : Message) → is_vnak k ≡ false → is_vnak l ≡ false → is_vnak m ≡ false → is_vnak n ≡ false
    → is_vnak (cond a k (cond b l (cond c m (cond d n Other)))) ≡ false
of_types true b c d k l m n first second third fourth = first
of_types false true c d k l m n first second third fourth = second
of_types false false true d k l m n first second third fourth = third
of_types false false false true k l m n first second third fourth = fourth
of_types false false false false k l m n first second third fourth = refl

of_control : (a b c d e f g : Bool)
    → is_vnak (cond a ClearsCall
    (cond b (Indicates Ringing)
    (cond c Answer (cond d ClearsCall (cond e ClearsCall (cond f (Indicates Progress) (cond g (Indicates Proceeding) Other)))))))
    ≡ false
of_control true b c d e f g = refl
of_control false true c d e f g = refl
of_control false false true d e f g = refl
of_control false false false true e f g = refl
of_control false false false false true f g = refl
of_control false false false false false true g = refl
of_control false false false false false false true = refl
of_control false false false false false false false = refl

before_vnak : (a b c d e f g h i j k l : Bool) (last : Message) → is_vnak last ≡ false
    → is_vnak (cond a New (cond b Ping
    (cond c Pong (cond d Ack (cond e Hangup
    (cond f Reject (cond g Accept (cond h AuthReq (cond i AuthRep (cond j Inval (cond k LagRq (cond l LagRp last))))))))))))
    ≡ false
before_vnak true b c d e f g h i j k l last isnt = refl
before_vnak false true c d e f g h i j k l last isnt = refl
before_vnak false false true d e f g h i j k l last isnt = refl
before_vnak false false false true e f g h i j k l last isnt = refl
before_vnak false false false false true f g h i j k l last isnt = refl
before_vnak false false false false false true g h i j k l last isnt = refl
before_vnak false false false false false false true h i j k l last isnt = refl
before_vnak false false false false false false false true i j k l last isnt = refl
before_vnak false false false false false false false false true j k l last isnt = refl
before_vnak false false false false false false false false false true k l last isnt = refl
before_vnak false false false false false false false false false false true l last isnt = refl
before_vnak false false false false false false false false false false false true last isnt = refl
before_vnak false false false false false false false false false false false false last isnt = isnt

after_vnak : (a b c d e f : Bool)
    → is_vnak (cond a TxCnt (cond b TxAcc (cond c Quelch (cond d Unquelch (cond e Poke (cond f Unsupport UnknownIax)))))) ≡ false
after_vnak true b c d e f = refl
after_vnak false true c d e f = refl
after_vnak false false true d e f = refl
after_vnak false false false true e f = refl
after_vnak false false false false true f = refl
after_vnak false false false false false true = refl
after_vnak false false false false false false = refl

dtmf_isnt : (subclass : ℕ) → is_vnak (dtmf_message subclass) ≡ false
dtmf_isnt subclass = either (nat_lt subclass 128)
  where
    either : (b : Bool) → is_vnak (cond b (Dtmf subclass) Other) ≡ false
    either true = refl
    either false = refl

voice_isnt : (format : Option Format) → is_vnak (voice_in format) ≡ false
voice_isnt None = refl
voice_isnt (Some format) = refl

control_isnt : (subclass : ℕ) → is_vnak (control_message subclass) ≡ false
control_isnt subclass =
    of_control (subclass == CONTROL_HANGUP) (subclass == CONTROL_RINGING) (subclass == CONTROL_ANSWER) (subclass == CONTROL_BUSY)
    (subclass == CONTROL_CONGESTION) (subclass == CONTROL_PROGRESS) (subclass == CONTROL_PROCEEDING)

-- another subclass
iax_isnt : (subclass : ℕ) → (subclass == IAX_VNAK) ≡ false → is_vnak (iax_message subclass) ≡ false
iax_isnt subclass e =
    let rest : is_vnak (cond (subclass == IAX_VNAK) Vnak
    (cond (subclass == IAX_TXCNT) TxCnt
    (cond (subclass == IAX_TXACC) TxAcc (cond (subclass == IAX_QUELCH) Quelch (cond (subclass == IAX_UNQUELCH) Unquelch
    (cond (subclass == IAX_POKE) Poke (cond (subclass == IAX_UNSUPPORT) Unsupport UnknownIax))))))) ≡ false =
    rw e (after_vnak (subclass == IAX_TXCNT) (subclass == IAX_TXACC) (subclass == IAX_QUELCH) (subclass == IAX_UNQUELCH)
    (subclass == IAX_POKE) (subclass == IAX_UNSUPPORT)) in
    before_vnak (subclass == IAX_NEW) (subclass == IAX_PING) (subclass == IAX_PONG) (subclass == IAX_ACK) (subclass == IAX_HANGUP)
    (subclass == IAX_REJECT)
    (subclass == IAX_ACCEPT) (subclass == IAX_AUTHREQ) (subclass == IAX_AUTHREP) (subclass == IAX_INVAL) (subclass == IAX_LAGRQ)
    (subclass == IAX_LAGRP)
    (cond (subclass == IAX_VNAK) Vnak
    (cond (subclass == IAX_TXCNT) TxCnt
    (cond (subclass == IAX_TXACC) TxAcc (cond (subclass == IAX_QUELCH) Quelch (cond (subclass == IAX_UNQUELCH) Unquelch
    (cond (subclass == IAX_POKE) Poke (cond (subclass == IAX_UNSUPPORT) Unsupport UnknownIax))))))) rest

iax_is : (subclass : ℕ) → is_vnak (iax_message subclass) ≡ true → (subclass == IAX_VNAK) ≡ true
iax_is subclass is = elim (cases_Bool (subclass == IAX_VNAK)) [
  | inl e ↦ e
  | inr e ↦ let never = iax_isnt subclass e in cc
]

record IsVnak (frame_type subclass : ℕ) : Type 0 where
  type_is : (frame_type == FRAME_IAX) ≡ true
  subclass_is : (subclass == IAX_VNAK) ≡ true

type_is : (frame_type subclass : ℕ) → is_vnak (by_type frame_type subclass) ≡ true → IsVnak frame_type subclass
type_is frame_type subclass is = elim (cases_Bool (frame_type == FRAME_IAX)) [
  | inl e ↦
      elim (cases_Bool (subclass == IAX_VNAK)) [
        | inl s ↦ record { type_is = e; subclass_is = s }
        | inr s ↦
            let never : is_vnak (by_type frame_type subclass) ≡ false =
            of_types (frame_type == FRAME_DTMF) (frame_type == FRAME_VOICE) (frame_type == FRAME_CONTROL)
            (frame_type == FRAME_IAX)
            (dtmf_message subclass) (voice_message subclass) (control_message subclass) (iax_message subclass)
            (dtmf_isnt subclass)
            (voice_isnt (format_of_bit subclass)) (control_isnt subclass) (iax_isnt subclass s) in
            cc
      ]
  | inr e ↦
      let never : is_vnak (by_type frame_type subclass) ≡ false =
      rw e
      (of_types (frame_type == FRAME_DTMF) (frame_type == FRAME_VOICE) (frame_type == FRAME_CONTROL) false (dtmf_message subclass)
      (voice_message subclass)
      (control_message subclass) Other (dtmf_isnt subclass) (voice_isnt (format_of_bit subclass)) (control_isnt subclass) refl) in
      cc
]

-- no power of two is the subclass
no_power : (n : ℕ) → 2 ^ n ≡ 18 → ⊥
no_power n is = elim (cases_Bool (nat_lt n 4)) [
  | inl e ↦ let low : 2 ^ n < 2 ^ 4 = pow_below n 4 (ltb-true n 4 e) in omega (arith, is, low)
  | inr e ↦
      elim (cases_Bool (nat_lt 5 n)) [
        | inl f ↦ let high : 2 ^ 5 < 2 ^ n = pow_below 5 n (ltb-true 5 n f) in omega (arith, is, high)
        | inr f ↦
            elim (cases_Bool (n == 4)) [
              | inl four ↦ let same : 2 ^ n ≡ 16 = ap (λ (m : ℕ). 2 ^ m) (eqb-true n 4 four) in omega (arith, is, same)
              | inr apart ↦
                  let five : n ≡ 5 = only_five n (ltb-false n 4 e) (ltb-false 5 n f) (λ four. let test : (n == 4) ≡ true = eq-eqb
                  n 4 four in cc) in
                  let same : 2 ^ n ≡ 32 = ap (λ (m : ℕ). 2 ^ m) five in
                  omega (arith, is, same)
            ]
      ]
]
  where
    only_five : (n : ℕ) → 4 ≤ n → n ≤ 5 → (n ≡ 4 → ⊥) → n ≡ 5
    only_five n low high apart = omega (arith, low, high, apart)

meant : (octet subclass : ℕ) → subclass_meaning octet ≡ Some subclass → (subclass == IAX_VNAK) ≡ true → (octet == IAX_VNAK) ≡ true
meant octet subclass means is = elim (cases_Bool (nat_lt octet 128)) [
  | inl e ↦
      let here : Some octet ≡ Some subclass = rw e at means in
      let same : octet ≡ subclass = cc in
      ap (λ (n : ℕ). n == IAX_VNAK) same ∙ is
  | inr e ↦
      elim (cases_Bool (nat_lt octet 192)) [
        | inl f ↦
            let here : Some (2 ^ (octet - 128)) ≡ Some subclass = rw (e, f) at means in
            let same : 2 ^ (octet - 128) ≡ subclass = cc in
            absurd (no_power (octet - 128) (same ∙ eqb-true subclass IAX_VNAK is))
        | inr f ↦ let never : None ≡ Some subclass = rw (e, f) at means in cc
      ]
]

by_meaning : (frame_type octet : ℕ) (o : Option ℕ) → subclass_meaning octet ≡ o → is_vnak (message_by frame_type o) ≡ true
    → IsVnak frame_type octet
by_meaning frame_type octet None means is = let never = unknown_isnt (frame_type == FRAME_IAX) in cc
  where
    unknown_isnt : (b : Bool) → is_vnak (cond b UnknownIax Other) ≡ false
    unknown_isnt true = refl
    unknown_isnt false = refl
by_meaning frame_type octet (Some subclass) means is =
    let both = type_is frame_type subclass is in
    record { type_is = both.type_is; subclass_is = meant octet subclass means both.subclass_is }

both_true : (a b : Bool) → a ≡ true → b ≡ true → (a && b) ≡ true
both_true true b first second = second
both_true false b first second = first

pub vnak_is : (head : FullHead) → is_vnak (message_of head) ≡ true → (head.frame_type == FRAME_IAX && head.subclass == IAX_VNAK)
    ≡ true
vnak_is head is =
    let both = by_meaning head.frame_type head.subclass (subclass_meaning head.subclass) refl is in
    both_true (head.frame_type == FRAME_IAX) (head.subclass == IAX_VNAK) both.type_is both.subclass_is
