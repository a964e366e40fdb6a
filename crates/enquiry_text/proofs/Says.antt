-- What a line says: the printed questions are enquiries, no other line is one, and those are refused by 12. Assumes nothing.
use Rattle.enquiry_text.specs.Said.{LineSays}
use Rattle.enquiry_text.proofs.Back.{question-back}
use Rattle.enquiry_text.proofs.Printed.{enquiry-printed, refused-malformed}

pub line-says : LineSays
line-says =
    record {
      asked = question-back;
      text = λ number text q h. (enquiry-printed number text q h).printed;
      digits = λ number text q h. (enquiry-printed number text q h).digits;
      otherwise = λ number text r h. let e = refused-malformed number text r h in cc;
    }
