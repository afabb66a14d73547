-- What is told of a configuration that is none.
use Rattle.std.specs.Prelude.{ℕ, List, codes}
use Rattle.node_settings.specs.Complaints.{text_of}
use Rattle.node_settings.specs.declared.complaint.Complaint.{Complaint}
use Rattle.node_objects.specs.Lines.{shown}

-- the text of its line
abbrev pub complaint_line : Complaint → List ℕ
complaint_line complaint = shown (text_of (codes "litefs.toml") complaint)
