mod MemberFacts
mod StepFacts
