use Rattle.std.proofs.Common.{ℕ, List, [], ◌∷◌, ◌++◌, ◌∙◌, ap, refl}
use Rattle.iax_frames.specs.declared.datagram.Datagram.TheVariants.{Full}
use Rattle.call_signals.proofs.reply.Replies.write.Goals as goal

pub put-requires-clause-frame : goal.put-requires-clause-frame
put-requires-clause-frame c = (
  Full (record { head = c.args.head.now; payload = c.args.payload.now }),
  record { widths = c.full_head.ensures.widths; whole = rw c.full_head.ensures.octets refl },
)

pub returns : goal.returns
returns c =
    c.put.ensures ∙ ap (λ (front : List ℕ). c.args.self.now ++ (front ++ c.args.payload.now) ∷ []) c.full_head.ensures.octets
